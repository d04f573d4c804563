use Rattle.std.proofs.Common.{◌≡◌, ◌∙◌, List, sym, subst, ap, Bool, refl}
use Rattle.ps_model.specs.board.Turns.{Script}
use Rattle.ps_model.specs.session.Sessions.{after}
use Rattle.ps_model.specs.session.KeySteps.{turn_taken}
use Rattle.ps_turn.specs.declared.outcomes.Turned.{Turned}
use Rattle.ps_stage.specs.declared.levels.AfterTurn.{AfterTurn}
use Rattle.ps_stage.specs.KeysShown.{IsNext, tried_outcome}
use Rattle.ps_stage.specs.Standings.{Standing, play_of, script_for, with_done}
use Rattle.ps_stage.proofs.StepsCompared.{comes_too}
use Rattle.ps_stage.proofs.KeyChanges.{done_taken}
use Rattle.ps_stage.specs.Touched.{IsTouchedBy}
use Rattle.ps_stage.proofs.stage.Stage.follow_tried.Goals as goal

pub returns-in-Done-clause-changes : goal.returns-in-Done-clause-changes
returns-in-Done-clause-changes g c =
    let script : Script = script_for g.B.Board.table_for c.args.self.now.game
    (g.R.Rules.meant c.args.rules.now.plain) (g.R.Rules.meant c.args.rules.now.late) in
    let next : c.in-Done.after.level ≡ with_done c.args.level.now c.in-Done.after.done c.in-Done.after.level.board =
    subst (IsNext c.args.level.now) c.in-Done.is c.requires.next in
    comes_too g.B.Board g.R.Rules c.args.self.now.game c.args.self.now.game c.args.rules.now c.args.rules.now
    c.args.level.now _ _ c.follow_key-change.result c.follow_key-change.new.self.text refl refl
    (λ history.
    ap (λ (tried : Turned (AfterTurn Standing (List Bool))). after c.args.self.now.text
    (turn_taken script (play_of history c.args.level.now) (tried_outcome tried))) c.in-Done.is
    ∙ ap (after c.args.self.now.text) (done_taken script c.args.level.now c.in-Done.after.level history c.in-Done.after.done next))
    (c.follow_key-change.ensures.changes c.args.level.now (sym (ap (λ (level : Standing). level.entry) next))
    (subst (IsTouchedBy c.args.level.now.board) c.in-Done.is c.requires.touched))

pub follow_key-change-requires : goal.follow_key-change-requires
follow_key-change-requires g c =
    ap (λ (level : Standing). level.basis) (subst (IsNext c.args.level.now) c.in-Done.is c.requires.next)
    ∙ c.requires.basis
