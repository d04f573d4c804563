use Rattle.std.proofs.Common.{◌∙◌, ◌++◌, Bool, List, length, ap, ap₂}
use Rattle.std.specs.Prelude.{◌&&◌, ◌||◌, not, nat_eq, string_bytes}
use Rattle.ps_warnings.specs.declared.kinds.Warning.{Warning}
use Rattle.ps_report.specs.WarningLines.{warning_lines}
use Rattle.ps_report.proofs.reports.report.Goals as goal

pub returns-clause-is : goal.returns-clause-is
returns-clause-is c =
    c.in_ok-whole.ensures.is
    ∙ ap₂ (λ (is : Bool) (told : List Warning). is && (not c.args.how.strict || nat_eq (length told) 0))
    c.in_ok-plain.ensures.is (c.deref.ensures.value ∙ c.in_ok-told.ensures)

pub returns-clause-lines : goal.returns-clause-lines
returns-clause-lines c = record {
  plain = string_bytes c.in_ok-plain.plain.lines;
  is = c.in_ok-plain.ensures.lines;
  are = c.in_ok-whole.ensures.lines
      ∙ ap (λ (told : List Warning). string_bytes c.in_ok-plain.plain.lines
      ++ warning_lines c.args.how c.args.name.now told) (c.deref.ensures.value ∙ c.in_ok-told.ensures);
}
