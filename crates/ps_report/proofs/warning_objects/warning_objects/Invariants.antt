use Rattle.std.proofs.Common.{◌≡◌, ◌++◌, drop, map}
use Rattle.serde_json.specs.View.{view}
use Rattle.ps_report.specs.ToldWarnings.{warnings_data}
use Rattle.ps_report.proofs.warning_objects.warning_objects.Given as goal

-- what is left comes to the whole
abbrev pub invariant-loop-warning : goal.invariant-loop-warning
invariant-loop-warning l =
    map view l.told.items ++ warnings_data (drop l.warning-index l.warnings) ≡ warnings_data l.warnings
