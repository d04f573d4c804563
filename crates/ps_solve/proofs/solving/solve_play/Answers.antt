use Rattle.std.proofs.Common.{ap}
use Rattle.ps_run.specs.SizedPlays.{play_in}
use Rattle.ps_solve.proofs.SourceLevels.{found_there}
use Rattle.ps_solve.proofs.solving.solve_play.Goals as goal

pub returns-in-One : goal.returns-in-One
returns-in-One g c =
    found_there c.args.play.now c.in-One.row c.sized.result.now c.session.result.now.game
    c.session.result.now.session c.sections.result.0.now c.sections.result.1.now c.args.limit
    c.solve_session.result (ap play_in c.in-One.is) c.sized.ensures.script c.sized.ensures.session
    c.session.ensures.game c.session.ensures.session c.sections.ensures.plain c.sections.ensures.late
    c.solve_session.ensures

pub returns-in-Two : goal.returns-in-Two
returns-in-Two g c =
    found_there c.args.play.now c.in-Two.row c.sized.result.now c.session-in-Two.result.now.game
    c.session-in-Two.result.now.session c.sections.result.0.now c.sections.result.1.now c.args.limit
    c.solve_session-in-Two.result (ap play_in c.in-Two.is) c.sized.ensures.script c.sized.ensures.session
    c.session-in-Two.ensures.game c.session-in-Two.ensures.session c.sections.ensures.plain c.sections.ensures.late
    c.solve_session-in-Two.ensures

pub returns-in-Three : goal.returns-in-Three
returns-in-Three g c =
    found_there c.args.play.now c.in-Three.row c.sized.result.now c.session-in-Three.result.now.game
    c.session-in-Three.result.now.session c.sections.result.0.now c.sections.result.1.now c.args.limit
    c.solve_session-in-Three.result (ap play_in c.in-Three.is) c.sized.ensures.script c.sized.ensures.session
    c.session-in-Three.ensures.game c.session-in-Three.ensures.session c.sections.ensures.plain c.sections.ensures.late
    c.solve_session-in-Three.ensures

pub returns-in-Four : goal.returns-in-Four
returns-in-Four g c =
    found_there c.args.play.now c.in-Four.row c.sized.result.now c.session-in-Four.result.now.game
    c.session-in-Four.result.now.session c.sections.result.0.now c.sections.result.1.now c.args.limit
    c.solve_session-in-Four.result (ap play_in c.in-Four.is) c.sized.ensures.script c.sized.ensures.session
    c.session-in-Four.ensures.game c.session-in-Four.ensures.session c.sections.ensures.plain c.sections.ensures.late
    c.solve_session-in-Four.ensures
