-- One attempt of a rule. Its places are those of the board as it is at the start, and so are their combinations: one
-- place for each row, the first row's changing fastest. Each combination in order is applied if every row still fits:
-- all cells of all rows are rewritten, row after row. A rule that has a combination queues its commands, whether it
-- changed something or not.
use Rattle.std.specs.Prelude.{ℕ, Bool, true, false, ◌&&◌, ◌||◌, not, if◌then◌else◌, Option, Some, None, List, [], ◌∷◌}
use Rattle.std.specs.Prelude.{map, fold, slice_get, slice_set}
use Rattle.std.specs.Option.{option_or}
use Rattle.std.specs.List.{flat_map}
use Rattle.ps_model.specs.declared.pieces.Slot.{Slot}
use Rattle.ps_model.specs.declared.pieces.Slot.TheVariants.{Bare, Holds}
use Rattle.ps_model.specs.board.Grid.{Grid}
use Rattle.ps_model.specs.names.Names.{same_object}
use Rattle.ps_model.specs.rules.SourceRules.{Commands}
use Rattle.ps_model.specs.meaning.RuleMeanings.{CellMeaning, RuleMeaning}
use Rattle.ps_model.specs.meaning.Fitting.{same_motion}
use Rattle.ps_model.specs.board.Places.{places, fits_along, cells_in}

-- a grid, and the commands that are queued
pub record State : Type 0 where
  pub grid : Grid
  pub queue : Commands

-- a state that rules have come to, and whether they changed something on the way
pub record Result : Type 0 where
  pub state : State
  pub changed : Bool

-- equal cells ---------------------------------------------------------------------------------------------------------

-- the slots hold the same
abbrev pub same_slot : Slot → Slot → Bool
same_slot Bare Bare = true
same_slot Bare (Holds object motion) = false
same_slot (Holds object motion) Bare = false
same_slot (Holds first motion) (Holds second other) = same_object first second && same_motion motion other

-- two cells hold the same, layer by layer
abbrev pub same_cell : List Slot → List Slot → Bool
same_cell [] [] = true
same_cell [] (slot ∷ slots) = false
same_cell (slot ∷ slots) [] = false
same_cell (first ∷ firsts) (second ∷ seconds) = same_slot first second && same_cell firsts seconds

-- rewriting -----------------------------------------------------------------------------------------------------------

-- a grid, and whether a cell of it has changed
pub record Rewritten : Type 0 where
  pub grid : Grid
  pub changed : Bool

-- a cell put in place of another
abbrev pub with_cell : Rewritten → ℕ → List Slot → List Slot → Rewritten
with_cell r number old new =
    record {
      grid = let g : Grid = r.grid in record g { cells = slice_set g.cells number new };
      changed =
          r.changed || not (same_cell old new);
    }

-- a cell of the board rewritten by a cell of a rule; where there is no such cell, nothing is
abbrev pub rewritten_cell : Rewritten → CellMeaning → ℕ → Option (List Slot) → Rewritten
rewritten_cell r meaning number None = r
rewritten_cell r meaning number (Some cell) = with_cell r number cell (meaning.rewritten cell)

-- the cells of a row rewritten at a place, one after the other
abbrev pub rewritten_along : Rewritten → List CellMeaning → List ℕ → Rewritten
rewritten_along r [] cells = r
rewritten_along r (meaning ∷ meanings) [] = r
rewritten_along r (meaning ∷ meanings) (cell ∷ cells) =
    rewritten_along (rewritten_cell r meaning cell (slice_get (r.grid).cells cell)) meanings cells

-- combinations --------------------------------------------------------------------------------------------------------

-- one place of each list, in all ways: the first list's place changes fastest, the last list's slowest
abbrev pub combinations : List (List (List ℕ)) → List (List (List ℕ))
combinations [] = [] ∷ []
combinations (places ∷ others) = flat_map (λ rest. map (λ place. place ∷ rest) places) (combinations others)

-- every row fits at its place
abbrev pub all_fit : Grid → List (List (List CellMeaning)) → List (List ℕ) → Bool
all_fit g [] places = true
all_fit g (row ∷ rows) [] = false
all_fit g (row ∷ rows) (place ∷ places) =
    elim (fits_along g (cells_in row) place) [ true ↦ all_fit g rows places | false ↦ false ]

-- all cells of all rows rewritten, row after row
abbrev pub rewritten_rows : Rewritten → List (List (List CellMeaning)) → List (List ℕ) → Rewritten
rewritten_rows r [] places = r
rewritten_rows r (row ∷ rows) [] = r
rewritten_rows r (row ∷ rows) (place ∷ places) = rewritten_rows (rewritten_along r (cells_in row) place) rows places

-- a combination applied, if every row still fits
abbrev pub applied : List (List (List CellMeaning)) → Rewritten → List (List ℕ) → Rewritten
applied rows r combination =
    elim (all_fit r.grid rows combination) [ true ↦ rewritten_rows r rows combination | false ↦ r ]

-- commands ------------------------------------------------------------------------------------------------------------

-- a queue and the commands of a rule together; of two messages the first is kept
abbrev pub both : Commands → Commands → Commands
both queue commands = record {
  cancel = queue.cancel || commands.cancel;
  restart = queue.restart || commands.restart;
  again = queue.again || commands.again;
  checkpoint = queue.checkpoint || commands.checkpoint;
  win = queue.win || commands.win;
  message = option_or queue.message commands.message;
}

-- the queue with the commands of a rule: after `cancel` nothing enters, after `restart` nothing but a rule with
-- `cancel`; a rule with `cancel` or `restart` empties the queue before its commands enter
abbrev pub queued : Commands → Commands → Commands
queued queue commands =
    if queue.cancel then queue
    else (if queue.restart && not commands.cancel then queue
    else (if commands.cancel || commands.restart then commands
    else both queue commands))

-- attempts ------------------------------------------------------------------------------------------------------------

-- the commands of a rule enter the queue, if it has a combination
abbrev pub queue_after : Commands → RuleMeaning → List (List (List ℕ)) → Commands
queue_after queue rule [] = queue
queue_after queue rule (combination ∷ others) = queued queue rule.commands

-- all combinations applied in order, if the rule rewrites cells
abbrev pub all_applied : RuleMeaning → Grid → List (List (List ℕ)) → Rewritten
all_applied rule g combinations = elim rule.rewrites [
  | true ↦ fold (applied rule.rows) (record { grid = g; changed = false }) combinations
  | false ↦ record { grid = g; changed = false }
]

-- the attempt whose combinations are these
abbrev pub attempt_by : RuleMeaning → State → List (List (List ℕ)) → Result
attempt_by rule state combinations =
    let r : Rewritten = all_applied rule state.grid combinations in
    record { state = record { grid = r.grid; queue = queue_after state.queue rule combinations }; changed = r.changed }

-- the combinations of a rule on a grid
abbrev pub combinations_on : Grid → RuleMeaning → List (List (List ℕ))
combinations_on g rule = combinations (map (places g rule.direction) rule.rows)

-- an attempt of a rule
abbrev pub attempt : RuleMeaning → State → Result
attempt rule state = attempt_by rule state (combinations_on state.grid rule)
