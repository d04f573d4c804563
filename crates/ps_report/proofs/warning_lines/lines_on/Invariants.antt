use Rattle.std.proofs.Common.{◌≡◌, ◌++◌, drop}
use Rattle.std.specs.Prelude.{string_bytes}
use Rattle.ps_report.specs.WarningLines.{lines_on}
use Rattle.ps_report.proofs.warning_lines.lines_on.Given as goal

-- what is left comes to the whole
abbrev pub invariant-loop-warning : goal.invariant-loop-warning
invariant-loop-warning l =
    string_bytes l.page ++ lines_on l.how l.name (drop l.warning-index l.warnings) ≡ lines_on l.how l.name l.warnings
