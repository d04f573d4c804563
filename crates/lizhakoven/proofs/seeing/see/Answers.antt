use Rattle.std.proofs.Common.{◌∙◌, ap, sym}
use Rattle.ps_levels.specs.EntriesShown.{entries_shown}
use Rattle.ps_run.specs.GamesInPlay.{GameInPlay}
use Rattle.ps_run.specs.SizedPlays.{play_in}
use Rattle.lizhakoven.proofs.SeenPlaces.{seen_there}
use Rattle.lizhakoven.proofs.seeing.see.Goals as goal

pub returns-in-One-clause-seen : goal.returns-in-One-clause-seen
returns-in-One-clause-seen c =
    seen_there (entries_shown c.args.entries.now) c.session.result.now.session c.args.play.now.session
    c.args.cells.now c.see_session.new.cells c.see_session.result
    (c.session.ensures.session ∙ ap (λ (row : GameInPlay). row.session) (sym (ap play_in c.in-One.is))
    ∙ c.sized.ensures.session)
    c.see_session.ensures.seen

pub returns-in-Two-clause-seen : goal.returns-in-Two-clause-seen
returns-in-Two-clause-seen c =
    seen_there (entries_shown c.args.entries.now) c.session-in-Two.result.now.session c.args.play.now.session
    c.args.cells.now c.see_session-in-Two.new.cells c.see_session-in-Two.result
    (c.session-in-Two.ensures.session ∙ ap (λ (row : GameInPlay). row.session) (sym (ap play_in c.in-Two.is))
    ∙ c.sized.ensures.session)
    c.see_session-in-Two.ensures.seen

pub returns-in-Three-clause-seen : goal.returns-in-Three-clause-seen
returns-in-Three-clause-seen c =
    seen_there (entries_shown c.args.entries.now) c.session-in-Three.result.now.session c.args.play.now.session
    c.args.cells.now c.see_session-in-Three.new.cells c.see_session-in-Three.result
    (c.session-in-Three.ensures.session ∙ ap (λ (row : GameInPlay). row.session) (sym (ap play_in c.in-Three.is))
    ∙ c.sized.ensures.session)
    c.see_session-in-Three.ensures.seen

pub returns-in-Four-clause-seen : goal.returns-in-Four-clause-seen
returns-in-Four-clause-seen c =
    seen_there (entries_shown c.args.entries.now) c.session-in-Four.result.now.session c.args.play.now.session
    c.args.cells.now c.see_session-in-Four.new.cells c.see_session-in-Four.result
    (c.session-in-Four.ensures.session ∙ ap (λ (row : GameInPlay). row.session) (sym (ap play_in c.in-Four.is))
    ∙ c.sized.ensures.session)
    c.see_session-in-Four.ensures.seen
