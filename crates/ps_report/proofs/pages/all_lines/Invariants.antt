use Rattle.std.proofs.Common.{take}
use Rattle.std.specs.Prelude.{string_bytes}
use Rattle.ps_report.specs.Pages.{AreOnFault, StandFor}
use Rattle.ps_report.proofs.pages.all_lines.Given as goal

-- lines on the faults passed by
abbrev pub invariant-loop-fault : goal.invariant-loop-fault
invariant-loop-fault l =
    StandFor (AreOnFault l.detail l.front l.text) (take l.fault-index l.faults) (string_bytes l.page)
