use Rattle.std.proofs.Common.{◌≡◌}
use Rattle.ps_model.specs.text.Lines.{folded}
use Rattle.ps_model.specs.text.LineNumbers.{lines_between}
use Rattle.ps_model.specs.text.Preludes.{is_set}
use Rattle.ps_sections.proofs.prelude.is_set.Given as goal

abbrev pub invariant-loop-line : goal.invariant-loop-line
invariant-loop-line l = is_set (lines_between l.source l.line l.fn.lines.end) (folded l.word) ≡ is_set
    (lines_between l.source l.fn.lines.start l.fn.lines.end) (folded l.word)
