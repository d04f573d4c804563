use Rattle.std.proofs.Common.{◌≡◌}
use Rattle.ps_model.specs.board.Turns.{Script}
use Rattle.ps_trial.specs.Desks.{LeadsOn, script_on}
use Rattle.ps_trial.specs.SilentKeys.{key_turns}
use Rattle.ps_trial.proofs.desk.Desk.key_turns.Given as goal

abbrev pub decreases-loop-left : goal.decreases-loop-left
decreases-loop-left g l = l.left

-- what is left comes to the same as all
abbrev pub invariant-loop-left : goal.invariant-loop-left
invariant-loop-left g l =
    let script : Script = script_on g.R.Rules l.fn.self.basis l.fn.rules in
    record {
      leads : LeadsOn l.fn.self l.self;
      same : script_on g.R.Rules l.self.basis l.rules ≡ script;
      rest : key_turns script l.most l.fn.self.boards ≡ key_turns script l.left l.self.boards;
    }
