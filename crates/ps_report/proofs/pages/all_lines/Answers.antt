use Rattle.std.proofs.Common.{◌≡◌, ◌+◌, ◌<◌, ℕ, List, take, length, arith}
use Rattle.std.specs.Prelude.{string_bytes}
use Rattle.ps_model.specs.declared.faults.Fault.{Fault as TheFault}
use Rattle.ps_report.specs.Pages.{AreOnFault}
use Rattle.ps_report.proofs.PagesTold.{stand_passed}
use Rattle.ps_report.proofs.pages.all_lines.Goals as goal

pub loop-fault-preserved : goal.loop-fault-preserved
loop-fault-preserved c =
    let k : ℕ = c.loop-fault.fault-index in
    let faults : List TheFault = c.args.faults.now in
    let inside : k < length faults = omega (arith, c.loop-fault-test.true) in
    stand_passed (AreOnFault c.args.detail c.args.front.now c.args.text.now) faults k (string_bytes c.push_lines.new.page)
    inside _ (c.in_ok-push_lines.ensures (take k faults) c.loop-fault.invariant)
