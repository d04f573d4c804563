use Rattle.std.proofs.Common.{◌≡◌, ◌+◌, ◌<◌, ℕ, List, map, take, length, arith}
use Rattle.serde_json.specs.View.{view}
use Rattle.ps_model.specs.declared.faults.Fault.{Fault as TheFault}
use Rattle.ps_report.specs.Objects.{IsFaultTold}
use Rattle.ps_report.proofs.PagesTold.{stand_passed}
use Rattle.ps_report.proofs.objects.fault_objects.Goals as goal

pub loop-fault-preserved : goal.loop-fault-preserved
loop-fault-preserved c =
    let k : ℕ = c.loop-fault.fault-index in
    let faults : List TheFault = c.args.faults.now in
    let inside : k < length faults = omega (arith, c.loop-fault-test.true) in
    stand_passed (IsFaultTold c.args.text.now) faults k (map view c.push_fault.new.told.items) inside _
    (c.in_ok-push_fault.ensures (take k faults) c.loop-fault.invariant)
