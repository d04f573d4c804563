use Rattle.std.proofs.Common.{ap, inr, Err}
use Rattle.ps_model.specs.board.Turns.{Script}
use Rattle.ps_run.specs.GameScripts.{script_shown}
use Rattle.ps_run.proofs.Running as runs
use Rattle.ps_run.proofs.game_run.run_game.Goals as goal

pub returns-in-Err-write_output : goal.returns-in-Err-write_output
returns-in-Err-write_output g c =
    let script : Script = script_shown c.args.script in
    let written = rw c.in-Ok.ensures.script at c.in-Ok.ensures.written in
    record {
      answers = inr (runs.opening_unwritten c.in-Err-write_output.field-0 script _ _ _ _ _ (λ memory.
          c.in-Err-write_output.ensures.fault (ap Err memory)) c.requires.heard c.requires.well
          (λ write. c.in-Err-write_output.ensures.told (ap Err write)) c.new-output.ensures written
          c.in-Err-write_output.ensures.stops);
    }

pub returns : goal.returns
returns g c =
    let script : Script = script_shown c.args.script in
    let written = rw c.in-Ok.ensures.script at c.in-Ok.ensures.written in
    let session = rw c.in-Ok.ensures.script at c.in-Ok.ensures.session in
    let comes = rw (c.in-Ok.ensures.script, c.new.ensures) at c.play-answer.ensures.answers in
    record {
      answers = inr (comes _ (runs.opened script _ _ _ _ _ c.requires.well c.new-output.ensures written session
          c.in_default.ensures.written));
    }
