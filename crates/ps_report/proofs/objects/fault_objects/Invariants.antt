use Rattle.std.proofs.Common.{map, take}
use Rattle.serde_json.specs.View.{view}
use Rattle.ps_report.specs.Objects.{IsFaultTold}
use Rattle.ps_report.specs.Pages.{StandFor}
use Rattle.ps_report.proofs.objects.fault_objects.Given as goal

-- an object for each of the faults passed by
abbrev pub invariant-loop-fault : goal.invariant-loop-fault
invariant-loop-fault l = StandFor (IsFaultTold l.text) (take l.fault-index l.faults) (map view l.told.items)
