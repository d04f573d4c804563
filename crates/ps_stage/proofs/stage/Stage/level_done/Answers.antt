use Rattle.std.proofs.Common.{◌∙◌, ◌++◌, sym, ap, subst}
use Rattle.std.specs.Fmt.{decimal}
use Rattle.std.specs.Prelude.{codes}
use Rattle.ps_model.specs.board.Turns.{Script}
use Rattle.ps_model.specs.session.Frames.{written_line}
use Rattle.ps_model.specs.session.Sessions.{after}
use Rattle.ps_model.specs.session.StartSteps.{enter}
use Rattle.ps_stage.specs.Standings.{StageValue, play_of, script_for}
use Rattle.ps_stage.proofs.Entered.{done_entered}
use Rattle.ps_stage.proofs.KeyChanges.{stopped_as}
use Rattle.ps_stage.proofs.Results.{if_err, if_ok}
use Rattle.ps_stage.specs.OwnBoards.{LocationFits, IsForOthers}
use Rattle.ps_stage.proofs.stage.Stage.level_done.Goals as goal

pub returns-clause-came : goal.returns-clause-came
returns-clause-came g c =
    let table_for = g.B.Board.table_for in
    let plain = g.R.Rules.meant c.args.rules.now.plain in
    let late = g.R.Rules.meant c.args.rules.now.late in
    let script : Script = script_for table_for c.args.self.now.game plain late in
    if_ok c.enter.result c.enter.ensures.came (λ location comes history.
    done_entered script (play_of history c.args.level.now) _ c.args.self.now.text c.add_level_done.new.self
    c.entry-entry.result c.level_number-number.result c.next.result c.entries.ensures.entries c.entry-entry.ensures
    c.level_number-number.ensures
    (c.in_ok-add_level_done.ensures.added
    ∙ ap (λ (stage : StageValue). stage.text
    ++ written_line (codes "* level ") (decimal c.level_number-number.result ++ codes " done")) c.self.view_is)
    c.next.ensures
    ∙ ap (λ (stage : StageValue). after c.add_level_done.new.self
    (enter (script_for table_for stage.game plain late) c.next.result)) (sym c.self.view_is)
    ∙ comes)

pub returns-clause-stopped : goal.returns-clause-stopped
returns-clause-stopped g c =
    let table_for = g.B.Board.table_for in
    let plain = g.R.Rules.meant c.args.rules.now.plain in
    let late = g.R.Rules.meant c.args.rules.now.late in
    let script : Script = script_for table_for c.args.self.now.game plain late in
    if_err c.enter.result c.enter.ensures.stopped (λ stop stops history.
    stopped_as script (script_for table_for c.self.inside.game plain late) stop _ _ c.enter.new.self.text
    (ap (λ (stage : StageValue). script_for table_for stage.game plain late) c.self.view_is)
    (done_entered script (play_of history c.args.level.now) _ c.args.self.now.text c.add_level_done.new.self
    c.entry-entry.result c.level_number-number.result c.next.result c.entries.ensures.entries c.entry-entry.ensures
    c.level_number-number.ensures
    (c.in_ok-add_level_done.ensures.added
    ∙ ap (λ (stage : StageValue). stage.text
    ++ written_line (codes "* level ") (decimal c.level_number-number.result ++ codes " done")) c.self.view_is)
    c.next.ensures
    ∙ ap (λ (stage : StageValue). after c.add_level_done.new.self
    (enter (script_for table_for stage.game plain late) c.next.result)) (sym c.self.view_is))
    stops)

pub returns-clause-boards : goal.returns-clause-boards
returns-clause-boards g c =
    if_ok c.enter.result c.enter.ensures.boards (λ location fits before.
    subst (λ (stage : StageValue). LocationFits stage.game before location) c.self.view_is (fits before))

pub returns-clause-elsewhere : goal.returns-clause-elsewhere
returns-clause-elsewhere g c =
    if_err c.enter.result c.enter.ensures.elsewhere (λ stop others.
    subst (λ (stage : StageValue). IsForOthers stage.game stop) c.self.view_is others)
