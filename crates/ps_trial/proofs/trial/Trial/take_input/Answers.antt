use Rattle.std.proofs.Common.{None, subst, sym}
use Rattle.ps_trial.specs.Desks.{IsSameUnless, script_on}
use Rattle.ps_trial.specs.SilentStarts.{Boards, spot_with}
use Rattle.ps_trial.specs.Told.{pressed_shown}
use Rattle.ps_trial.proofs.OwnTurns.{taken_from}
use Rattle.ps_trial.proofs.Results.{if_ok}
use Rattle.ps_trial.proofs.trial.Trial.take_input.Goals as goal

pub returns-clause-came : goal.returns-clause-came
returns-clause-came g c =
    if_ok c.follow-pressed.result c.follow-pressed.ensures.came (λ pressed comes.
    taken_from (script_on g.R.Rules c.args.self.now.basis c.args.rules.now)
    (script_on g.R.Rules c.own_turn.new.self.basis c.own_turn.new.rules) c.args.self.now.here c.own_turn.new.self.here
    c.own_turn.new.self.there c.args.input c.in_ok-turned.turned c.in_ok-turned.ensures.turned.0
    (λ (b : Boards). pressed_shown pressed (spot_with b None) c.follow-pressed.new.self.there) c.own_turn.ensures.script
    c.own_turn.ensures.here c.in_ok-turned.ensures.turned.1 c.in_ok-turned.ensures.turned.2
    (comes c.in_ok-turned.ensures.turned.0))

pub follow-pressed-requires : goal.follow-pressed-requires
follow-pressed-requires g c =
    subst (λ (b : Boards). IsSameUnless c.in_ok-turned.turned b c.own_turn.new.self.there)
    (sym c.own_turn.ensures.here) c.in_ok-turned.ensures.same
