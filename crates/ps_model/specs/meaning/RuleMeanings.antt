-- What a rule means of cells: a list of its possible readings, and for each cell of a reading two facts alone: which
-- cells of the board it fits, and what it makes of a cell. Places, attempts, rounds and programs see nothing else of a
-- rule, whether it comes from its source or is compiled.
use Rattle.std.specs.Prelude.{Bool, List}
use Rattle.ps_model.specs.declared.pieces.Direction.{Direction}
use Rattle.ps_model.specs.declared.pieces.Slot.{Slot}
use Rattle.ps_model.specs.rules.SourceRules.{Commands}

-- the two facts of a rule's cell
pub record CellMeaning : Type 0 where
  pub fits : List Slot → Bool
  pub rewritten : List Slot → List Slot

-- a reading of a rule, or a compiled rule
pub record RuleMeaning : Type 0 where
  pub direction : Direction
  -- its rows; a row is a list of parts, parted by its ellipses, and a part is a list of cells
  pub rows : List (List (List CellMeaning))
  -- it rewrites cells; one with commands alone on its right doesn't
  pub rewrites : Bool
  pub commands : Commands
