use Rattle.std.proofs.Common.{◌≡◌, ◌∙◌, ◌+◌, ℕ, List, length, take, refl, ap, arith}
use Rattle.ps_model.specs.declared.play.Key.{Key}
use Rattle.ps_model.specs.board.Turns.{Script}
use Rattle.ps_model.specs.session.Sessions.{Session}
use Rattle.ps_laws.specs.Fronts.{session_after}
use Rattle.ps_records.specs.Courses.{course_by, place_after}
use Rattle.ps_run.specs.GamesInPlay.{script_in}
use Rattle.ps_replay.proofs.Courses.{all_taken, course_more, one_more}
use Rattle.ps_replay.proofs.playing.play_keys.Goals as goal

pub loop-before-preserved : goal.loop-before-preserved
loop-before-preserved c =
    let was = c.loop-before.invariant in
    let pressed = c.in_ok-press.ensures in
    let script : Script = script_in c.args.play.now in
    let start : Session = c.args.play.now.session in
    let keys : List Key = c.args.keys.now in
    let k : ℕ = c.loop-before.before in
    let now : Session = c.loop-before.play.session in
    let next : Session = c.press.new.play.session in
    let came : next ≡ session_after script start (take (k + 1) keys) =
    one_more script (script_in c.loop-before.play) start now next keys k _ (omega (arith, c.loop-before-test.true))
    was.script was.session pressed.session in
    record {
      script = pressed.script ∙ was.script;
      session = came;
      course = course_more script start now next keys k (k + 1) c.loop-before.course c.press.new.course refl
          was.session came was.course pressed.course;
    }

pub returns-clause-session : goal.returns-clause-session
returns-clause-session c =
    let script : Script = script_in c.args.play.now in
    c.loop-before.invariant.session
    ∙ ap (session_after script c.args.play.now.session)
    (all_taken c.args.keys.now c.loop-before.before (omega (arith, c.loop-before-test.false)))

pub returns-clause-course : goal.returns-clause-course
returns-clause-course c =
    let all : c.loop-before.before ≡ length c.args.keys.now = omega (arith, c.loop-before-test.false) in
    c.loop-before.invariant.course
    ∙ ap (course_by (place_after (script_in c.args.play.now) c.args.play.now.session c.args.keys.now)) all
