-- Reading and writing the cells of a grid of a game.
use Rattle.std.proofs.Common.{ℕ, List, All, IfSome, slice_get, inl, inr, ◌∙◌, subst}
use Rattle.std.specs.Prelude.{slice_set}
use Rattle.std.proofs.lemmas.List.{length-set}
use Rattle.std.proofs.lemmas.List.Elements.{All-set}
use Rattle.std.proofs.lemmas.Option.{slice_get_cases}
use Rattle.ps_model.specs.declared.pieces.Slot.{Slot}
use Rattle.ps_model.specs.board.Grid.{Grid}
use Rattle.ps_model.specs.names.Names.{Names}
use Rattle.ps_model.specs.board.GameGrids.{IsCellOf, IsGridOf}

-- what holds of each element holds of the one that is read
pub IfSome-slice_get : {X : Type 0} (P : X → Type 0) (xs : List X) (i : ℕ) → All P xs → IfSome (slice_get xs i) P
IfSome-slice_get P xs i each = elim ((slice_get_cases xs i).1) [
  | inl found ↦ rw found.2 (subst P found.3 (each i found.0 found.1))
  | inr past ↦ rw past.1 tt
]

-- the cell that is read is one of the game
pub IsCellOf-read : (names : Names) (g : Grid) → IsGridOf names g → (cell : ℕ) →
    IfSome (slice_get g.cells cell) (IsCellOf names)
IsCellOf-read names g shape cell = IfSome-slice_get (IsCellOf names) g.cells cell shape.cells

-- a grid of the game stays one where a cell of the game is put
pub IsGridOf-put : (names : Names) (g : Grid) → IsGridOf names g → (cell : ℕ) (new : List Slot) → IsCellOf names new →
    IsGridOf names (record g { cells = slice_set g.cells cell new })
IsGridOf-put names g shape cell new fine = record {
  layers = shape.layers;
  cells = All-set (IsCellOf names) g.cells cell new fine shape.cells;
  shape = length-set g.cells cell new ∙ shape.shape;
}
