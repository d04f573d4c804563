use Rattle.std.proofs.Common.{◌∙◌, Some, ap, sym}
use Rattle.ps_model.specs.session.Solving.{Spot}
use Rattle.ps_trial.specs.SilentStarts.{spot_with}
use Rattle.ps_trial.specs.Told.{pressed_shown, waits_shown}
use Rattle.ps_trial.specs.declared.trial.Pressed.{Pressed}
use Rattle.ps_solve.proofs.level_search.step_to.Goals as goal

pub returns-in-Ok-clause-led : goal.returns-in-Ok-clause-led
returns-in-Ok-clause-led g c = λ came is.
    let trial = c.args.trial.now in
    let here : Spot = spot_with trial.here (waits_shown c.args.at.now.waits) in (
      c.in-Ok.ensures.known,
      is
          ∙ ap (λ (pressed : Pressed). pressed_shown pressed here trial.there) c.in-To.is
          ∙ ap (λ (s : Spot). Some s) (sym c.in-Ok.ensures.stands),
    )
