use Rattle.std.proofs.Common.{refl, sym, subst}
use Rattle.ps_model.specs.session.Sessions.{Play, after}
use Rattle.ps_model.specs.session.KeySteps.{gone_on}
use Rattle.ps_model.specs.session.StartSteps.{level_done}
use Rattle.ps_stage.specs.Changes.{ComesTo}
use Rattle.ps_stage.specs.declared.locations.Pending.{Pending}
use Rattle.ps_stage.specs.StepsShown.{pending_shown}
use Rattle.ps_stage.proofs.StepsCompared.{comes_too}
use Rattle.ps_stage.proofs.stage.Stage.go_on.Goals as goal

pub returns-in-LevelDone-clause-changes : goal.returns-in-LevelDone-clause-changes
returns-in-LevelDone-clause-changes g c =
    subst (λ (pending : Pending). ComesTo g.B.Board g.R.Rules c.args.self.now.game c.args.rules.now c.args.level.now
    (λ script play. after c.args.self.now.text (gone_on script play (pending_shown pending)))
    c.end_level.result c.end_level.new.self.text) (sym c.in-LevelDone.is)
    (comes_too g.B.Board g.R.Rules c.args.self.now.game c.args.self.now.game c.args.rules.now c.args.rules.now
    c.args.level.now (λ script play. after c.args.self.now.text (level_done script play)) _ c.end_level.result
    c.end_level.new.self.text refl refl (λ history. refl)
    (c.end_level.ensures.changes c.args.level.now (λ (play : Play). play.history)))

pub returns-in-KeyAgain-clause-changes : goal.returns-in-KeyAgain-clause-changes
returns-in-KeyAgain-clause-changes g c =
    subst (λ (pending : Pending). ComesTo g.B.Board g.R.Rules c.args.self.now.game c.args.rules.now c.args.level.now
    (λ script play. after c.args.self.now.text (gone_on script play (pending_shown pending)))
    c.go_on_with_key.result c.go_on_with_key.new.self.text) (sym c.in-KeyAgain.is) c.go_on_with_key.ensures.changes

pub returns-in-StartAgain-clause-changes : goal.returns-in-StartAgain-clause-changes
returns-in-StartAgain-clause-changes g c =
    subst (λ (pending : Pending). ComesTo g.B.Board g.R.Rules c.args.self.now.game c.args.rules.now c.args.level.now
    (λ script play. after c.args.self.now.text (gone_on script play (pending_shown pending)))
    c.go_on_with_start.result c.go_on_with_start.new.self.text) (sym c.in-StartAgain.is)
    c.go_on_with_start.ensures.changes
