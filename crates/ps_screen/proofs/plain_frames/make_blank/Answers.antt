use Rattle.std.proofs.Common.{◌≡◌, arith}
use Rattle.std.proofs.lemmas.Result.{on_ok_weaker}
use Rattle.ps_screen.proofs.PlainFrames.{blank_frame, no_rows, row_added}
use Rattle.ps_screen.proofs.plain_frames.make_blank.Goals as goal

pub loop-row-init : goal.loop-row-init
loop-row-init c = rw c.clear.ensures (no_rows c.args.width)

pub loop-row-preserved : goal.loop-row-preserved
loop-row-preserved c = row_added c.args.width c.loop-row._row c.loop-row.text _ c.loop-row.invariant
    c.in_ok-add_blank_row.ensures

pub returns : goal.returns
returns c =
    let all : c.loop-row._row ≡ c.args.height = omega (arith, c.loop-row.auto._row-end, c.loop-row-test.false) in
    on_ok_weaker c.add.result (λ is. blank_frame c.args.width c.args.height c.loop-row.text _
    (rw (← all) c.loop-row.invariant) is) c.add.ensures.added
