use Rattle.std.proofs.Common.{◌∙◌, arith, sym}
use Rattle.ps_warnings.proofs.RoomsFound.{is_here, not_here}
use Rattle.ps_warnings.proofs.rooms.line_of_rooms.Goals as goal

pub loop-line-preserved : goal.loop-line-preserved
loop-line-preserved c =
    not_here c.args.source.now c.loop-line.line c.args.lines.now.end (omega arith) (omega arith) (omega arith)
    (sym c.in_ok-asks_for_rooms.ensures ∙ c.if-branch.false) ∙ c.loop-line.invariant

pub returns-then-branch : goal.returns-then-branch
returns-then-branch c =
    is_here c.args.source.now c.loop-line.line c.args.lines.now.end (omega arith) (omega arith) (omega arith)
    (sym c.in_ok-asks_for_rooms.ensures ∙ c.if-branch.true) (omega arith) ∙ c.loop-line.invariant
