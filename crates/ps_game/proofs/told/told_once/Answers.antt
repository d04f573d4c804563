use Rattle.std.proofs.Common.{rules, ◌≡◌, ◌∙◌, ◌<◌, ◌∷◌, ◌+◌, ℕ, List, drop, length, sym, ap, arith}
use Rattle.ps_model.specs.declared.faults.Fault.{Fault as TheFault}
use Rattle.ps_game.specs.ToldFaults.{told_once}
use Rattle.ps_game.proofs.ToldPhases.{once_more}
use Rattle.ps_game.proofs.told.told_once.Goals as goal

pub loop-fault-preserved : goal.loop-fault-preserved
loop-fault-preserved c =
    once_more c.args.most c.loop-fault.told.items c.tell.new.told.items c.args.faults.now c.loop-fault.fault-index
    (omega (arith, c.loop-fault-test.true)) _ c.in_ok-tell.ensures ∙ c.loop-fault.invariant
