-- Nothing that happens in a turn changes the sides of a grid.
use Rattle.std.proofs.Common.{ℕ, false, Option, Some, None, List, [], ◌∷◌, fold, refl, ◌∙◌}
use Rattle.std.specs.Prelude.{All, slice_get, not, if◌then◌else◌}
use Rattle.ps_model.specs.declared.pieces.Slot.{Slot}
use Rattle.ps_model.specs.declared.play.Input.{Input}
use Rattle.ps_model.specs.names.Names.{Names}
use Rattle.ps_model.specs.board.Grid.{Grid}
use Rattle.ps_model.specs.meaning.RuleMeanings.{CellMeaning, RuleMeaning}
use Rattle.ps_model.specs.rules.SourceRules.{no_commands}
use Rattle.ps_model.specs.board.Places.{cells_in}
use Rattle.ps_model.specs.board.Attempts.{State, Rewritten, with_cell, rewritten_cell, rewritten_along, all_fit}
use Rattle.ps_model.specs.board.Attempts.{rewritten_rows, applied, combinations_on, attempt}
use Rattle.ps_model.specs.board.Programs.{Section, Group, Loop, program_run}
use Rattle.ps_model.specs.board.Movement.{slid}
use Rattle.ps_model.specs.board.Turns.{Script, Outcome, Blocked, Restarted, Finished, prepared, moved, played}
use Rattle.ps_model.specs.board.Turns.{same_cells, is_held, done_with, turn}
use Rattle.ps_laws.specs.SameSides.{SameSides, HasSides, AttemptsKeepSides, RoundsKeepSides, SettlingKeepsSides}
use Rattle.ps_laws.specs.SameSides.{GroupsKeepSides, PassesKeepSides, LoopsKeepSides, SectionsKeepSides, RunsKeepSides}
use Rattle.ps_laws.specs.SameSides.{ProgramsKeepSides, SlidesKeepSides, RestKeepsSides, InputsKeepSides, TurnsKeepSides}
use Rattle.ps_laws.proofs.common.Everywhere.{either_way, either_one, All-always}
use Rattle.ps_laws.proofs.grids.KeptPrograms.{OfGrid, RuleKeeps, SectionKeeps, round-keeps, settled-keeps, group-keeps}
use Rattle.ps_laws.proofs.grids.KeptPrograms.{pass-keeps, looped-keeps, section_run-keeps, sections_run-keeps}
use Rattle.ps_laws.proofs.grids.KeptPrograms.{program_run-keeps}

-- a grid has its own sides
pub same_sides : (g : Grid) → SameSides g g
same_sides g = record { width = refl; height = refl; layers = refl }

-- sides kept twice
pub sides_twice : (before between after : Grid) → SameSides before between → SameSides between after →
    SameSides before after
sides_twice before between after h k = record {
  width = k.width ∙ h.width;
  height = k.height ∙ h.height;
  layers =
      k.layers ∙ h.layers;
}

-- attempts ------------------------------------------------------------------------------------------------------------

with_cell-sides : (g : Grid) (r : Rewritten) (number : ℕ) (old new : List Slot) → SameSides g r.grid →
    SameSides g (with_cell r number old new).grid
with_cell-sides g r number old new h = record { width = h.width; height = h.height; layers = h.layers }

rewritten_cell-sides : (g : Grid) (r : Rewritten) (meaning : CellMeaning) (number : ℕ) (found : Option (List Slot)) →
    SameSides g r.grid → SameSides g (rewritten_cell r meaning number found).grid
rewritten_cell-sides g r meaning number None h = h
rewritten_cell-sides g r meaning number (Some cell) h = with_cell-sides g r number cell (meaning.rewritten cell) h

rewritten_along-sides : (g : Grid) (r : Rewritten) (meanings : List CellMeaning) (cells : List ℕ) →
    SameSides g r.grid → SameSides g (rewritten_along r meanings cells).grid
rewritten_along-sides g r [] cells h = h
rewritten_along-sides g r (meaning ∷ meanings) [] h = h
rewritten_along-sides g r (meaning ∷ meanings) (cell ∷ cells) h =
    rewritten_along-sides g (rewritten_cell r meaning cell (slice_get (r.grid).cells cell)) meanings cells
    (rewritten_cell-sides g r meaning cell (slice_get (r.grid).cells cell) h)

rewritten_rows-sides : (g : Grid) (r : Rewritten) (rows : List (List (List CellMeaning))) (places : List (List ℕ)) →
    SameSides g r.grid → SameSides g (rewritten_rows r rows places).grid
rewritten_rows-sides g r [] places h = h
rewritten_rows-sides g r (row ∷ rows) [] h = h
rewritten_rows-sides g r (row ∷ rows) (place ∷ places) h =
    rewritten_rows-sides g (rewritten_along r (cells_in row) place) rows places
    (rewritten_along-sides g r (cells_in row) place h)

applied-sides : (g : Grid) (rows : List (List (List CellMeaning))) (r : Rewritten) (combination : List (List ℕ)) →
    SameSides g r.grid → SameSides g (applied rows r combination).grid
applied-sides g rows r combination h =
    either_way (λ (x : Rewritten). SameSides g x.grid) (all_fit r.grid rows combination)
    (rewritten_rows r rows combination) r (rewritten_rows-sides g r rows combination h) h

all_applied-sides : (g : Grid) (rows : List (List (List CellMeaning))) (r : Rewritten)
    (combinations : List (List (List ℕ))) → SameSides g r.grid →
    SameSides g (fold (applied rows) r combinations).grid
all_applied-sides g rows r [] h = h
all_applied-sides g rows r (combination ∷ others) h =
    all_applied-sides g rows (applied rows r combination) others (applied-sides g rows r combination h)

-- whatever grid a state has the sides of, an attempt's has them
attempt-kept : (g : Grid) (rule : RuleMeaning) (state : State) → SameSides g state.grid →
    SameSides g (attempt rule state).state.grid
attempt-kept g rule state h =
    let start : Rewritten = record { grid = state.grid; changed = false } in
    either_way (λ (x : Rewritten). SameSides g x.grid) rule.rewrites
    (fold (applied rule.rows) start (combinations_on state.grid rule)) start
    (all_applied-sides g rule.rows start (combinations_on state.grid rule) h) h

pub attempt-sides : AttemptsKeepSides
attempt-sides rule state = attempt-kept state.grid rule state (same_sides state.grid)

-- programs ------------------------------------------------------------------------------------------------------------

rules_keep : (g : Grid) (rules : List RuleMeaning) → All (RuleKeeps (OfGrid (SameSides g))) rules
rules_keep g rules = All-always (RuleKeeps (OfGrid (SameSides g))) rules (λ rule state h. attempt-kept g rule state h)

body_keeps : (g : Grid) (body : List (List RuleMeaning)) → All (All (RuleKeeps (OfGrid (SameSides g)))) body
body_keeps g body = All-always (All (RuleKeeps (OfGrid (SameSides g)))) body (rules_keep g)

section_keeps : (g : Grid) (section : Section) → SectionKeeps (OfGrid (SameSides g)) section
section_keeps g (Group rules) = rules_keep g rules
section_keeps g (Loop body) = body_keeps g body

sections_keep : (g : Grid) (sections : List Section) → All (SectionKeeps (OfGrid (SameSides g))) sections
sections_keep g sections = All-always (SectionKeeps (OfGrid (SameSides g))) sections (section_keeps g)

pub round-sides : RoundsKeepSides
round-sides rules state = round-keeps (OfGrid (SameSides state.grid)) rules state (rules_keep state.grid rules)
    (same_sides state.grid)

pub settled-sides : SettlingKeepsSides
settled-sides rules rounds changed state = settled-keeps (OfGrid (SameSides state.grid)) rules rounds changed state
    (rules_keep state.grid rules) (same_sides state.grid)

pub group-sides : GroupsKeepSides
group-sides rules state = group-keeps (OfGrid (SameSides state.grid)) rules state (rules_keep state.grid rules)
    (same_sides state.grid)

pub pass-sides : PassesKeepSides
pass-sides body state = pass-keeps (OfGrid (SameSides state.grid)) body state (body_keeps state.grid body)
    (same_sides state.grid)

pub looped-sides : LoopsKeepSides
looped-sides body repeats state = looped-keeps (OfGrid (SameSides state.grid)) body repeats state
    (body_keeps state.grid body) (same_sides state.grid)

pub section_run-sides : SectionsKeepSides
section_run-sides section repeats state = section_run-keeps (OfGrid (SameSides state.grid)) section repeats state
    (section_keeps state.grid section) (same_sides state.grid)

pub sections_run-sides : RunsKeepSides
sections_run-sides sections repeats state = sections_run-keeps (OfGrid (SameSides state.grid)) sections repeats state
    (sections_keep state.grid sections) (same_sides state.grid)

program_run-kept : (g : Grid) (sections : List Section) (state : State) → SameSides g state.grid →
    SameSides g (program_run sections state).grid
program_run-kept g sections state h =
    program_run-keeps (OfGrid (SameSides g)) sections state (sections_keep g sections) h

pub program_run-sides : ProgramsKeepSides
program_run-sides sections state = program_run-kept state.grid sections state (same_sides state.grid)

-- turns ---------------------------------------------------------------------------------------------------------------

pub slid-sides : SlidesKeepSides
slid-sides g = record { width = refl; height = refl; layers = refl }

pub at_rest-sides : RestKeepsSides
at_rest-sides g = record { width = refl; height = refl; layers = refl }

pub with_input-sides : InputsKeepSides
with_input-sides names input g = record { width = refl; height = refl; layers = refl }

prepared-sides : (names : Names) (input : Option Input) (g : Grid) → SameSides g (prepared names input g)
prepared-sides names None g = at_rest-sides g
prepared-sides names (Some input) g = with_input-sides names input g

played-sides : (script : Script) (input : Option Input) (g : Grid) → SameSides g (played script input g).grid
played-sides script input g =
    let start : State = record { grid = prepared script.names input g; queue = no_commands } in
    let before : State = program_run script.plain start in
    program_run-kept g script.late (moved before)
    (sides_twice g before.grid (slid before.grid)
    (program_run-kept g script.plain start (prepared-sides script.names input g)) (slid-sides before.grid))

pub turn-sides : TurnsKeepSides
unfolding turn
turn-sides script input g =
    let last : State = played script input g in
    let done : Outcome = Finished (done_with script last (not (same_cells g.cells last.grid.cells))) in
    let restarted : Outcome = if last.queue.restart then Restarted last.queue.message else done in
    let stopped : Outcome = if last.queue.cancel then Blocked last.queue.message else restarted in
    either_one (HasSides g) (is_held script input g last.grid) (Blocked None) stopped tt
    (either_one (HasSides g) last.queue.cancel (Blocked last.queue.message) restarted tt
    (either_one (HasSides g) last.queue.restart (Restarted last.queue.message) done tt (played-sides script input g)))
