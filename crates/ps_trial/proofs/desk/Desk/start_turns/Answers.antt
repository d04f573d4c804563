use Rattle.std.proofs.Common.{◌≡◌, ◌∙◌, ◌-◌, suc, ap, arith}
use Rattle.ps_model.specs.board.Turns.{Script}
use Rattle.ps_model.specs.session.Solving.{Spot}
use Rattle.ps_trial.specs.declared.told.Pending.{Pending}
use Rattle.ps_trial.specs.declared.told.Told.{Told}
use Rattle.std.specs.Prelude.{Option}
use Rattle.ps_trial.specs.Desks.{script_on}
use Rattle.ps_trial.specs.SilentStarts.{Boards, start_turns}
use Rattle.ps_trial.specs.Told.{start_shown}
use Rattle.ps_trial.proofs.Leading.{leads_twice}
use Rattle.ps_trial.proofs.Loops.{one_more}
use Rattle.ps_trial.proofs.desk.Desk.start_turns.Goals as goal

pub returns-in-Ends-clause-came : goal.returns-in-Ends-clause-came
returns-in-Ends-clause-came g c =
    let count : c.loop-left.left ≡ suc (c.loop-left.left - 1) = omega arith in
    let script : Script = (script_on g.R.Rules c.args.self.now.basis c.args.rules.now) in
    one_more start_turns script (script_on g.R.Rules c.loop-left.self.basis c.loop-left.rules) c.args.most c.loop-left.left (c.loop-left.left - 1)
    c.args.self.now.boards c.loop-left.self.boards
    (λ (turns : Boards → Spot). start_shown c.in_ok-waits.field-0 c.start_turn.new.self.boards turns)
    c.loop-left.invariant.same count c.loop-left.invariant.rest
    c.in_ok-waits.ensures.told
    ∙ ap (λ (told : Told (Option Pending)). start_shown told c.start_turn.new.self.boards
    (start_turns script (c.loop-left.left - 1))) c.in-Ends.is

pub loop-left-preserved : goal.loop-left-preserved
loop-left-preserved g c =
    let count : c.loop-left.left ≡ suc (c.loop-left.left - 1) = omega arith in
    let script : Script = (script_on g.R.Rules c.args.self.now.basis c.args.rules.now) in
    record {
      leads =
          leads_twice c.args.self.now c.loop-left.self c.start_turn.new.self c.loop-left.invariant.leads
          c.start_turn.ensures.leads;
      same = c.start_turn.ensures.script ∙ c.loop-left.invariant.same;
      rest =
          one_more start_turns script (script_on g.R.Rules c.loop-left.self.basis c.loop-left.rules) c.args.most c.loop-left.left (c.loop-left.left - 1)
          c.args.self.now.boards c.loop-left.self.boards
          (λ (turns : Boards → Spot). start_shown c.in_ok-waits.field-0 c.start_turn.new.self.boards turns)
          c.loop-left.invariant.same count c.loop-left.invariant.rest
          c.in_ok-waits.ensures.told
          ∙ ap (λ (told : Told (Option Pending)). start_shown told c.start_turn.new.self.boards
          (start_turns script (c.loop-left.left - 1))) c.in-GoesOn.is;
    }
