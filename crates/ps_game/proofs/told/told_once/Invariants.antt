use Rattle.std.proofs.Common.{◌≡◌, [], drop}
use Rattle.ps_game.specs.ToldFaults.{told_once}
use Rattle.ps_game.proofs.told.told_once.Given as goal

abbrev pub invariant-loop-fault : goal.invariant-loop-fault
invariant-loop-fault l =
    told_once l.most l.told.items (drop l.fault-index l.faults) ≡ told_once l.most [] l.faults
