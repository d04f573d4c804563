use Rattle.std.proofs.Common.{◌≡◌, ◌∙◌, ◌-◌, suc, ap, arith}
use Rattle.ps_model.specs.board.Turns.{Script}
use Rattle.ps_model.specs.session.Solving.{Spot}
use Rattle.ps_trial.specs.declared.told.Came.{Came}
use Rattle.ps_trial.specs.declared.told.Told.{Told}
use Rattle.std.specs.Prelude.{Option}
use Rattle.ps_trial.specs.Desks.{script_on}
use Rattle.ps_trial.specs.SilentStarts.{Boards}
use Rattle.ps_trial.specs.SilentKeys.{key_turns}
use Rattle.ps_trial.specs.Told.{key_shown}
use Rattle.ps_trial.proofs.Leading.{leads_twice}
use Rattle.ps_trial.proofs.Loops.{one_more}
use Rattle.ps_trial.proofs.desk.Desk.key_turns.Goals as goal

pub returns-in-Ends-clause-came : goal.returns-in-Ends-clause-came
returns-in-Ends-clause-came g c =
    let count : c.loop-left.left ≡ suc (c.loop-left.left - 1) = omega arith in
    let script : Script = (script_on g.R.Rules c.args.self.now.basis c.args.rules.now) in
    one_more key_turns script (script_on g.R.Rules c.loop-left.self.basis c.loop-left.rules) c.args.most c.loop-left.left (c.loop-left.left - 1)
    c.args.self.now.boards c.loop-left.self.boards
    (λ (turns : Boards → Option Spot). key_shown c.in_ok-came.field-0 c.key_turn.new.self.boards turns)
    c.loop-left.invariant.same count c.loop-left.invariant.rest
    c.in_ok-came.ensures.told
    ∙ ap (λ (told : Told Came). key_shown told c.key_turn.new.self.boards
    (key_turns script (c.loop-left.left - 1))) c.in-Ends.is

pub loop-left-preserved : goal.loop-left-preserved
loop-left-preserved g c =
    let count : c.loop-left.left ≡ suc (c.loop-left.left - 1) = omega arith in
    let script : Script = (script_on g.R.Rules c.args.self.now.basis c.args.rules.now) in
    record {
      leads =
          leads_twice c.args.self.now c.loop-left.self c.key_turn.new.self c.loop-left.invariant.leads
          c.key_turn.ensures.leads;
      same = c.key_turn.ensures.script ∙ c.loop-left.invariant.same;
      rest =
          one_more key_turns script (script_on g.R.Rules c.loop-left.self.basis c.loop-left.rules) c.args.most c.loop-left.left (c.loop-left.left - 1)
          c.args.self.now.boards c.loop-left.self.boards
          (λ (turns : Boards → Option Spot). key_shown c.in_ok-came.field-0 c.key_turn.new.self.boards turns)
          c.loop-left.invariant.same count c.loop-left.invariant.rest
          c.in_ok-came.ensures.told
          ∙ ap (λ (told : Told Came). key_shown told c.key_turn.new.self.boards
          (key_turns script (c.loop-left.left - 1))) c.in-GoesOn.is;
    }
