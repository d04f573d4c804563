use Rattle.std.proofs.Common.{◌≡◌, ◌∙◌, ◌+◌, refl, arith}
use Rattle.ps_model.specs.text.LineNumbers.{here, lines_between}
use Rattle.ps_levels.specs.ToldWins.{told_win}
use Rattle.ps_laws.proofs.common.LinesInOrder.{between-step}
use Rattle.ps_levels.proofs.ToldSteps.{lines-told}
use Rattle.ps_levels.proofs.telling_wins.told_wins.Goals as goal

pub loop-line-preserved : goal.loop-line-preserved
loop-line-preserved c =
    let text = c.args.source.now in
    let names = c.args.names.now in
    let line = c.loop-line.line in
    let step = between-step text line (line + 1) c.args.lines.end (omega arith) (omega arith) (omega arith) refl in
    lines-told (told_win names) c.loop-line.told.items c.tell_line.new.told.items
    (lines_between text line c.args.lines.end) (here text line) (lines_between text (line + 1) c.args.lines.end) step
    c.in_ok-tell_line.ensures ∙ c.loop-line.invariant
