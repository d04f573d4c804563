use Rattle.std.proofs.Common.{◌∙◌, sym}
use Rattle.std.proofs.lemmas.List.{at_drop_all}
use Rattle.ps_laws.specs.Fronts.{session_after}
use Rattle.ps_run.specs.GamesInPlay.{script_in}
use Rattle.ps_solve.proofs.PlayedKeys.{one_more_key}
use Rattle.ps_solve.proofs.played.play_on.Goals as goal

pub loop-key-preserved : goal.loop-key-preserved
loop-key-preserved c =
    let turned = c.in_ok-key.ensures in
    let before = c.loop-key.invariant in
    record {
      script = turned.script ∙ before.script;
      session = one_more_key (script_in c.args.play.now) (script_in c.loop-key.play) c.loop-key.play.session
          c.key.new.self.session
          (session_after (script_in c.args.play.now) c.args.play.now.session c.args.keys.now) c.args.keys.now c.loop-key.key-index _ c.loop-key-test.true before.script turned.session before.session;
    }

pub returns-clause-session : goal.returns-clause-session
returns-clause-session c =
    sym (at_drop_all (session_after (script_in c.args.play.now) c.loop-key.play.session) c.args.keys.now c.loop-key.key-index c.loop-key-test.false) ∙ c.loop-key.invariant.session
