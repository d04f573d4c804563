use Rattle.std.proofs.Common.{◌∙◌, ◌++◌, ℕ, List, ap}
use Rattle.std.specs.Prelude.{codes}
use Rattle.ps_model.specs.session.Frames.{written_line}
use Rattle.ps_model.specs.session.StartSteps.{enter}
use Rattle.ps_run.specs.GameScripts.{script_shown}
use Rattle.ps_run.specs.declared.game_script.GameScript.{GameScript}
use Rattle.ps_run.proofs.Opened.{opened_session, opened_text}
use Rattle.ps_run.proofs.game_play.GamePlay.start.Goals as goal

pub returns-clause-session : goal.returns-clause-session
returns-clause-session c =
    opened_session c.args.script.game c.args.script.plain.now c.args.script.late.now _
    (c.in_ok-play.ensures.session
    ∙ ap (λ (script : GameScript). (enter (script_shown script) c.first_entry-entry.result).session) c.copied.ensures
    ∙ ap (λ (entry : ℕ). (enter (script_shown c.args.script) entry).session) c.first_entry-entry.ensures)

pub returns-clause-written : goal.returns-clause-written
returns-clause-written c =
    opened_text c.args.script.game c.args.script.plain.now c.args.script.late.now c.args.output.now c.add_line.new.self
    c.start_at.new.output
    (c.in_ok-add_line.ensures.added ∙ ap (λ (title : List ℕ).
    c.args.output.now ++ written_line (codes "= ") title) c.title.ensures)
    (c.in_ok-play.ensures.text
    ∙ ap (λ (script : GameScript). c.add_line.new.self ++ (enter (script_shown script) c.first_entry-entry.result).text)
    c.copied.ensures
    ∙ ap (λ (entry : ℕ). c.add_line.new.self ++ (enter (script_shown c.args.script) entry).text)
    c.first_entry-entry.ensures)
