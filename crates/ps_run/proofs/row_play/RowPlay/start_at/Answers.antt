use Rattle.std.proofs.Common.{◌∙◌, ◌++◌, refl, sym, ap}
use Rattle.ps_model.specs.board.Turns.{Script}
use Rattle.ps_model.specs.session.StartSteps.{enter}
use Rattle.ps_rulebook.specs.PlayedGames.{meant_of}
use Rattle.ps_run.proofs.Scripts.{script_is, script_on_boards}
use Rattle.ps_run.proofs.row_play.RowPlay.start_at.Goals as goal

pub returns : goal.returns
returns g c =
    let plain = ap meant_of c.in_ok-rules.ensures.plain in
    let late = ap meant_of c.in_ok-rules.ensures.late in
    let begun = sym (script_is c.on_boards-game.result c.in_ok-rules.rules.plain c.in_ok-rules.rules.late)
    ∙ script_on_boards c.args.script.game c.on_boards-game.result c.on_boards-game.result c.args.sides
    c.args.script.plain.now c.args.script.late.now c.in_ok-rules.rules.plain c.in_ok-rules.rules.late
    c.on_boards-game.ensures refl plain late in
    record {
      plays = script_on_boards c.args.script.game c.on_boards-game.result c.in_ok-session.session.game c.args.sides
          c.args.script.plain.now c.args.script.late.now c.start_at.new.rules.plain c.start_at.new.rules.late
          c.on_boards-game.ensures c.in_ok-session.ensures.game
          (c.in_ok-session.ensures.plain ∙ plain) (c.in_ok-session.ensures.late ∙ late);
      session = c.in_ok-session.ensures.session ∙ ap (λ (script : Script). (enter script c.args.entry).session) begun;
      text = c.in_ok-session.ensures.written ∙ ap (λ (script : Script).
          c.args.output.now ++ (enter script c.args.entry).text) begun;
    }
