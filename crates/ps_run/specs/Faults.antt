-- Faults of a run by what they come from.
use Rattle.ps_model.specs.declared.refusal.Refusal.{Refusal}
use Rattle.ps_model.specs.declared.refusal.Refusal.TheVariants.{Refused, Memory}
use Rattle.ps_devices.specs.declared.players.RunFault.{RunFault}
use Rattle.ps_devices.specs.declared.players.RunFault.TheVariants as run
use Rattle.ps_run.specs.declared.faults.PieceFault.{PieceFault}
use Rattle.ps_run.specs.declared.faults.PieceFault.TheVariants as piece

-- the fault of a run whose text is refused, or whose reading wants memory
abbrev pub fault_of : Refusal → RunFault
fault_of (Refused fault) = run.Refused fault
fault_of Memory = run.Memory

-- the fault of a run that stops in a piece
abbrev pub run_fault_of : PieceFault → RunFault
run_fault_of piece.Memory = run.Memory
run_fault_of piece.Write = run.Write
