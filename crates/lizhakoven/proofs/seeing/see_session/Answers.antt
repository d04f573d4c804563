use Rattle.std.proofs.Common.{◌∙◌, ℕ, ap, refl}
use Rattle.ps_levels.specs.EntriesShown.{entries_shown}
use Rattle.ps_model.specs.board.Grid.{Grid}
use Rattle.ps_stage.specs.Standings.{play_of}
use Rattle.lizhakoven.specs.Places.{cells_in, number_among, number_of_phase}
use Rattle.lizhakoven.proofs.SeenPlaces.{level_is, no_level, phase_is, place_made, seen_level, seen_nowhere, told_same}
use Rattle.lizhakoven.proofs.seeing.see_session.Goals as goal

pub returns-in-None-clause-seen : goal.returns-in-None-clause-seen
returns-in-None-clause-seen g c =
    let session = c.args.session.now.session in
    seen_nowhere (entries_shown c.args.entries.now) session c.args.cells.now c.number_of_phase-phase.result _
    (c.number_of_phase-phase.ensures ∙ ap number_of_phase c.phase.ensures ∙ phase_is session)
    (no_level session (c.in-None.ensures.nowhere refl)) c.nowhere-place.ensures refl

pub returns-clause-seen : goal.returns-clause-seen
returns-clause-seen g c =
    let session = c.args.session.now.session in
    let entries = entries_shown c.args.entries.now in
    let level = c.in-Some.here.0.now in
    let play = play_of c.in-Some.ensures.level.0 level in
    seen_level entries session play c.args.cells.now c.write_numbers-is_told.new.room _
    (level_is session c.in-Some.here.1 play c.in-Some.ensures.level.1)
    (place_made entries session play _
    (c.number_of_phase-phase.ensures ∙ ap number_of_phase c.phase.ensures ∙ phase_is session)
    (c.size-width.ensures.width ∙ ap (λ (shown : Grid). shown.width) c.board-shown.ensures.grid)
    (c.size-width.ensures.height ∙ ap (λ (shown : Grid). shown.height) c.board-shown.ensures.grid)
    (c.layers.ensures ∙ ap (λ (shown : Grid). shown.layers) c.board-shown.ensures.grid)
    (c.number_of_level-number.ensures
    ∙ ap (λ (place : ℕ). number_among entries place) (c.number.ensures.number ∙ c.entry.ensures)))
    (told_same c.deref.result.now (cells_in level.board) c.args.cells.now c.write_numbers-is_told.new.room
    c.write_numbers-is_told.result
    (c.deref.ensures.value ∙ c.in_ok-numbers.ensures ∙ ap cells_in c.board-shown.ensures.grid)
    c.write_numbers-is_told.ensures)
