use Rattle.std.proofs.Common.{◌∙◌, sym, subst, ap, refl}
use Rattle.ps_stage.specs.KeysShown.{IsNext, tried_outcome}
use Rattle.ps_stage.specs.Standings.{StageValue, Standing, basis_of}
use Rattle.ps_model.specs.session.KeySteps.{turn_taken}
use Rattle.ps_model.specs.session.Sessions.{after}
use Rattle.ps_stage.specs.Changes.{ComesTo}
use Rattle.ps_stage.proofs.StepsCompared.{comes_too}
use Rattle.ps_stage.proofs.KeyChanges.{taken_of}
use Rattle.ps_stage.specs.Meanings.{same_late, same_plain}
use Rattle.ps_stage.proofs.stage.Stage.take_input.Goals as goal

pub returns-clause-changes : goal.returns-clause-changes
returns-clause-changes g c =
    let plain = g.R.Rules.meant c.args.rules.now.plain in
    let late = g.R.Rules.meant c.args.rules.now.late in
    comes_too g.B.Board g.R.Rules c.args.self.now.game c.try_turn.new.self.game c.args.rules.now c.try_turn.new.rules
    c.args.level.now _ (λ script play. after c.try_turn.new.self.text
    (turn_taken script play (tried_outcome c.in_ok-tried.tried))) c.follow_tried.result c.follow_tried.new.self.text
    (ap (λ (stage : StageValue). stage.game) c.in_ok-tried.ensures.stage) c.in_ok-tried.ensures.meaning
    (λ history. taken_of g.B.Board.table_for c.args.self.now c.try_turn.new.self plain late
    (g.R.Rules.meant c.try_turn.new.rules.plain) (g.R.Rules.meant c.try_turn.new.rules.late) c.args.level.now
    c.args.level.now history c.args.input (tried_outcome c.in_ok-tried.tried) c.in_ok-tried.ensures.stage
    (same_plain c.in_ok-tried.ensures.meaning) (same_late c.in_ok-tried.ensures.meaning) refl
    c.in_ok-tried.ensures.outcome)
    (subst (λ (level : Standing). ComesTo g.B.Board g.R.Rules c.try_turn.new.self.game c.try_turn.new.rules level
    (λ script play. after c.try_turn.new.self.text (turn_taken script play (tried_outcome c.in_ok-tried.tried)))
    c.follow_tried.result c.follow_tried.new.self.text) c.in_ok-tried.ensures.level c.follow_tried.ensures.changes)

pub follow_tried-requires-clause-basis : goal.follow_tried-requires-clause-basis
follow_tried-requires-clause-basis g c =
    ap (λ (level : Standing). level.basis) c.in_ok-tried.ensures.level
    ∙ c.requires
    ∙ sym (ap (λ (stage : StageValue). basis_of g.B.Board.table_for stage.game.names) c.in_ok-tried.ensures.stage)

pub follow_tried-requires-clause-next : goal.follow_tried-requires-clause-next
follow_tried-requires-clause-next g c =
    subst (λ (level : Standing). IsNext level c.in_ok-tried.tried) (sym c.in_ok-tried.ensures.level)
    c.in_ok-tried.ensures.next
