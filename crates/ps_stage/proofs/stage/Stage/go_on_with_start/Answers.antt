use Rattle.std.proofs.Common.{◌∙◌, sym, ap}
use Rattle.ps_model.specs.session.Sessions.{Session, after}
use Rattle.ps_model.specs.session.StartSteps.{start_turns}
use Rattle.ps_stage.specs.Standings.{StageValue, Standing, script_for, play_of}
use Rattle.ps_stage.specs.StepsShown.{came}
use Rattle.ps_stage.proofs.OwnBoards.{stays_there}
use Rattle.ps_stage.proofs.stage.Stage.go_on_with_start.Goals as goal

pub returns-clause-changes : goal.returns-clause-changes
returns-clause-changes g c =
    let table_for = g.B.Board.table_for in
    let plain = g.R.Rules.meant c.args.rules.now.plain in
    let late = g.R.Rules.meant c.args.rules.now.late in
    record {
      came = λ history.
          ap (λ (level : Standing). after c.args.self.now.text
          (start_turns (script_for table_for c.args.self.now.game plain late) c.args.left (play_of history level)))
          (sym c.in_ok-next.ensures.copy)
          ∙ ap (λ (stage : StageValue). after stage.text
          (start_turns (script_for table_for stage.game plain late) c.args.left (play_of history c.in_ok-next.next)))
          (sym c.in_ok-next.ensures.stage)
          ∙ c.in_ok-pending.ensures.came history
          ∙ ap (λ (session : Session). came session c.start_turns.new.self.text)
          (sym (c.located.ensures.shown history));
      stopped = tt;
      basis = c.located.ensures.basis _
          (c.in_ok-pending.ensures.basis
          ∙ ap (λ (level : Standing). level.basis) c.in_ok-next.ensures.copy
          ∙ c.requires);
      fits = stays_there c.args.self.now.game c.args.level.now.entry c.start_turns.new.level.entry c.located.result
          (c.in_ok-pending.ensures.entry ∙ ap (λ (level : Standing). level.entry) c.in_ok-next.ensures.copy)
          c.located.ensures.entry;
      elsewhere = tt;
      touched = tt;
    }
