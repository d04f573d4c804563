use Rattle.std.proofs.Common.{take}
use Rattle.std.specs.Prelude.{string_bytes}
use Rattle.ps_report.specs.EditorLines.{IsEditorLine}
use Rattle.ps_report.specs.Pages.{StandFor}
use Rattle.ps_report.proofs.editors.editor_lines.Given as goal

-- a line on each of the faults passed by
abbrev pub invariant-loop-fault : goal.invariant-loop-fault
invariant-loop-fault l =
    StandFor (IsEditorLine l.name l.text) (take l.fault-index l.faults) (string_bytes l.page)
