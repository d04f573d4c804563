use Rattle.std.proofs.Common.{◌∙◌, List, sym, subst, ap}
use Rattle.std.proofs.lemmas.Option.{IfSome_then}
use Rattle.ps_model.specs.board.Grid.{Grid}
use Rattle.ps_model.specs.board.Turns.{Script}
use Rattle.ps_model.specs.session.Sessions.{Play, Session}
use Rattle.ps_stage.specs.declared.locations.KeyEnd.{KeyEnd}
use Rattle.ps_stage.specs.declared.locations.KeyEnd.TheVariants.{Won}
use Rattle.ps_stage.specs.Changes.{ComesTo}
use Rattle.ps_stage.specs.KeysShown.{key_end_step}
use Rattle.ps_stage.specs.Locations.{history_behind}
use Rattle.ps_stage.specs.Standings.{StageValue, script_for, play_of}
use Rattle.ps_stage.specs.StepsShown.{came}
use Rattle.ps_stage.proofs.OwnBoards.{stays_there}
use Rattle.ps_stage.proofs.stage.Stage.finish_key.Goals as goal

pub returns-in-Stops-clause-changes : goal.returns-in-Stops-clause-changes
returns-in-Stops-clause-changes g c first here touched =
    let plain = g.R.Rules.meant c.args.rules.now.plain in
    let late = g.R.Rules.meant c.args.rules.now.late in
    let script : Script = script_for g.B.Board.table_for c.args.self.now.game plain late in
    record {
      came = λ history.
          let behind : List Grid = history_behind c.args.history_change history first.board in
          ap (λ (end : KeyEnd). key_end_step script end (play_of behind c.args.level) c.args.self.now.text)
          c.in-Stops.is
          ∙ ap (λ (session : Session). came session c.args.self.now.text) (sym (c.located.ensures.shown behind));
      stopped = tt;
      basis = c.located.ensures.basis _ c.requires;
      fits = stays_there c.args.self.now.game first.entry c.args.level.entry c.located.result (sym here)
          c.located.ensures.entry;
      elsewhere = tt;
      touched = IfSome_then c.args.rows touched (λ rows known. c.located.ensures.touched rows first.board known);
    }

pub returns-in-Won-clause-changes : goal.returns-in-Won-clause-changes
returns-in-Won-clause-changes g c first here touched =
    let behind = λ (play : Play). history_behind c.args.history_change play.history play.board in
    subst (λ (end : KeyEnd). ComesTo g.B.Board g.R.Rules c.args.self.now.game c.args.rules.now first
    (λ script play. key_end_step script end (play_of (behind play) c.args.level) c.args.self.now.text)
    c.end_level-change.result c.keep_level.new.self.text) (sym c.in-Won.is)
    (subst (λ (stage : StageValue). ComesTo g.B.Board g.R.Rules c.args.self.now.game c.args.rules.now first
    (λ script play. key_end_step script Won (play_of (behind play) c.args.level) c.args.self.now.text)
    c.end_level-change.result stage.text) (sym c.keep_level.ensures)
    (c.end_level-change.ensures.changes first behind))
