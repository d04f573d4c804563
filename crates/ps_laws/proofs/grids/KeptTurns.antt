-- Rest, inputs and turns keep the grids of a game.
use Rattle.std.proofs.Common.{ℕ, suc, Option, Some, None, List, [], ◌∷◌, map, not, ◌∙◌}
use Rattle.std.specs.Prelude.{All, if◌then◌else◌}
use Rattle.std.proofs.lemmas.List.{length-map}
use Rattle.ps_model.specs.declared.pieces.ObjectId.{ObjectId}
use Rattle.ps_model.specs.declared.pieces.Motion.{Motion}
use Rattle.ps_model.specs.declared.pieces.Slot.{Slot}
use Rattle.ps_model.specs.declared.pieces.Slot.TheVariants.{Bare, Holds}
use Rattle.ps_model.specs.declared.play.Input.{Input}
use Rattle.ps_model.specs.declared.rules.Part.TheVariants.{Plain, Late}
use Rattle.ps_model.specs.names.Names.{Names, players}
use Rattle.ps_model.specs.board.Grid.{Grid, slot_at_rest, at_rest}
use Rattle.ps_model.specs.board.Inputs.{slot_with_motion, motion_of, with_input}
use Rattle.ps_model.specs.rules.SourceRules.{no_commands}
use Rattle.ps_model.specs.board.Attempts.{State}
use Rattle.ps_model.specs.board.Programs.{program_run}
use Rattle.ps_model.specs.game.Games.{Game}
use Rattle.ps_model.specs.board.Turns.{Script, script_of, Outcome, Blocked, Restarted, Finished, prepared, moved}
use Rattle.ps_model.specs.board.Turns.{played, same_cells, is_held, done_with, turn}
use Rattle.ps_model.specs.board.GameGrids.{IsSlotOf, IsCellFrom, IsCellOf, IsGridOf}
use Rattle.ps_model.specs.meaning.GameRules.{IsLineOf}
use Rattle.ps_laws.specs.KeptGrids.{KeepsInSection, IsOutcomeOf}
use Rattle.ps_laws.proofs.common.Everywhere.{either_one, All-mapped}
use Rattle.ps_laws.proofs.grids.KeptSlides.{IsSlotOf-at_rest, slid-keeps}
use Rattle.ps_laws.proofs.grids.KeptRuns.{program_run-kept}
use Rattle.ps_laws.proofs.grids.KeptRules.{program_of-keep}

-- slots changed one by one --------------------------------------------------------------------------------------------

IsCellFrom-map : (names : Names) (change : Slot → Slot) (layer : ℕ) (cell : List Slot) →
    ((layer : ℕ) (slot : Slot) → IsSlotOf names layer slot → IsSlotOf names layer (change slot)) →
    IsCellFrom names layer cell → IsCellFrom names layer (map change cell)
IsCellFrom-map names change layer [] keeps h = tt
IsCellFrom-map names change layer (slot ∷ slots) keeps h =
    (keeps layer slot h.0, IsCellFrom-map names change (suc layer) slots keeps h.1)

-- a grid whose slots are changed, each to one of its layer
pub IsGridOf-map : (names : Names) (change : Slot → Slot) (g : Grid) →
    ((layer : ℕ) (slot : Slot) → IsSlotOf names layer slot → IsSlotOf names layer (change slot)) →
    IsGridOf names g → IsGridOf names (record g { cells = map (map change) g.cells })
IsGridOf-map names change g keeps h = record {
  layers = h.layers;
  cells = All-mapped (IsCellOf names) (IsCellOf names) (map change) g.cells (λ cell c.
      (length-map cell change ∙ c.0, IsCellFrom-map names change 0 cell keeps c.1)) h.cells;
  shape = length-map g.cells (map change) ∙ h.shape;
}

pub at_rest-keeps : (names : Names) (g : Grid) → IsGridOf names g → IsGridOf names (at_rest g)
at_rest-keeps names g h = IsGridOf-map names slot_at_rest g (IsSlotOf-at_rest names) h

IsSlotOf-with_motion : (names : Names) (moved : List ObjectId) (motion : Motion) (layer : ℕ) (slot : Slot) →
    IsSlotOf names layer slot → IsSlotOf names layer (slot_with_motion moved motion slot)
IsSlotOf-with_motion names moved motion layer Bare h = tt
IsSlotOf-with_motion names moved motion layer (Holds object was) h = h

pub with_input-keeps : (names : Names) (input : Input) (g : Grid) → IsGridOf names g →
    IsGridOf names (with_input names input g)
with_input-keeps names input g h = IsGridOf-map names (slot_with_motion (players names) (motion_of input)) g
    (IsSlotOf-with_motion names (players names) (motion_of input)) h

pub prepared-keeps : (names : Names) (input : Option Input) (g : Grid) → IsGridOf names g →
    IsGridOf names (prepared names input g)
prepared-keeps names None g h = at_rest-keeps names g h
prepared-keeps names (Some input) g h = with_input-keeps names input g h

-- turns ---------------------------------------------------------------------------------------------------------------

played-keeps : (script : Script) (input : Option Input) (g : Grid) → All (KeepsInSection script.names) script.plain →
    All (KeepsInSection script.names) script.late →
    IsGridOf script.names g → IsGridOf script.names (played script input g).grid
played-keeps script input g plain late h =
    let start : State = record { grid = prepared script.names input g; queue = no_commands } in
    let before : State = program_run script.plain start in
    program_run-kept script.names script.late (moved before) late
    (slid-keeps script.names before.grid (program_run-kept script.names script.plain start plain
    (prepared-keeps script.names input g h)))

-- a turn of a script
pub turn-keeps : (script : Script) (input : Option Input) (g : Grid) → All (KeepsInSection script.names) script.plain →
    All (KeepsInSection script.names) script.late →
    IsGridOf script.names g → IsOutcomeOf script.names (turn script input g)
unfolding turn
turn-keeps script input g plain late h =
    let last : State = played script input g in
    let done : Outcome = Finished (done_with script last (not (same_cells g.cells last.grid.cells))) in
    let restarted : Outcome = if last.queue.restart then Restarted last.queue.message else done in
    let stopped : Outcome = if last.queue.cancel then Blocked last.queue.message else restarted in
    either_one (IsOutcomeOf script.names) (is_held script input g last.grid) (Blocked None) stopped tt
    (either_one (IsOutcomeOf script.names) last.queue.cancel (Blocked last.queue.message) restarted tt
    (either_one (IsOutcomeOf script.names) last.queue.restart (Restarted last.queue.message) done tt
    (played-keeps script input g plain late h)))

-- a turn of a game's script
pub game_turn-keeps : (game : Game) (input : Option Input) (g : Grid) → All (IsLineOf game.names) game.rules →
    IsGridOf game.names g → IsOutcomeOf game.names (turn (script_of game) input g)
game_turn-keeps game input g all h = turn-keeps (script_of game) input g
    (program_of-keep game.names Plain game.rules all) (program_of-keep game.names Late game.rules all) h
