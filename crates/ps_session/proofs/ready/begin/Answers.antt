use Rattle.std.proofs.Common.{◌∙◌, sym, ap}
use Rattle.ps_model.specs.session.Sessions.{Step}
use Rattle.ps_model.specs.session.StartSteps.{enter}
use Rattle.ps_stage.specs.Standings.{script_for}
use Rattle.ps_session.proofs.Starts.{begun_text}
use Rattle.ps_session.proofs.ready.begin.Goals as goal

pub returns : goal.returns
returns g c =
    let step : Step = enter (script_for g.B.Board.table_for c.args.stage.now.game
    (g.R.Rules.meant c.args.rules.now.plain) (g.R.Rules.meant c.args.rules.now.late)) c.args.entry in
    record {
      game = c.in_ok-move_text.ensures.game ∙ c.in_ok-location.ensures.game;
      meaning = c.in_ok-location.ensures.meaning;
      basis = c.in_ok-location.ensures.basis;
      shown = sym (ap (λ (step : Step). step.session) c.in_ok-location.ensures.came);
      written = begun_text step _ c.args.stage.now.text c.begin.new.self.text c.args.output.now
          c.move_text.new.output c.requires.empty c.in_ok-location.ensures.came c.in_ok-move_text.ensures.moved;
      kept = tt;
    }
