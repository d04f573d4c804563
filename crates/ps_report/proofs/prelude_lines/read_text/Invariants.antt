use Rattle.std.proofs.Common.{◌≡◌}
use Rattle.std.specs.Prelude.{find}
use Rattle.ps_model.specs.text.Lines.{folded}
use Rattle.ps_model.specs.text.LineNumbers.{lines_between}
use Rattle.ps_model.specs.text.Preludes.{begins_with}
use Rattle.ps_report.proofs.prelude_lines.read_text.Given as goal

abbrev pub invariant-loop-line : goal.invariant-loop-line
invariant-loop-line l = find (begins_with (folded l.word)) (lines_between l.source l.line l.fn.lines.end) ≡ find
    (begins_with (folded l.word)) (lines_between l.source l.fn.lines.start l.fn.lines.end)
