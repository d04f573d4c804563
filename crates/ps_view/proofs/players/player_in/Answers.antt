use Rattle.std.proofs.Common.{◌∙◌, ◌<◌, ap, length}
use Rattle.ps_view.specs.Players.{cell_at, first_cell_of}
use Rattle.ps_view.specs.declared.frame_rows.FrameRow.{FrameRow}
use Rattle.ps_view.proofs.FrameRows.{first_further, known_of_row}
use Rattle.ps_view.proofs.players.player_in.Goals as goal

pub loop-number-preserved : goal.loop-number-preserved
loop-number-preserved c =
    let players = c.args.players.now in
    let rows = c.args.frame.now in
    let number = c.loop-number.number in
    let row = c.index-frame-number.result in
    let within : number < length rows = c.loop-number-test.true in
    let known = known_of_row players rows number row c.requires within c.index-frame-number.is in
    first_further players rows c.loop-number.first c.first_cell_of-first.result number row within c.index-frame-number.is
    (c.first_cell_of-first.ensures
    ∙ ap (first_cell_of c.loop-number.first) (c.cell_at.ensures
    ∙ ap (cell_at number) (c.player.ensures ∙ ap (λ (r : FrameRow). r.player) c.deref.ensures ∙ known)))
    c.loop-number.invariant
