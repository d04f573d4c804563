use Rattle.std.proofs.Common.{◌∙◌, ap, sym}
use Rattle.ps_run.specs.GamesInPlay.{GameInPlay}
use Rattle.ps_run.specs.SizedPlays.{play_in}
use Rattle.ps_replay.proofs.SessionPlaces.{place_there}
use Rattle.ps_replay.proofs.places.place_of.Goals as goal

pub returns-in-One : goal.returns-in-One
returns-in-One c =
    place_there c.session.result.now.session c.args.play.now.session c.place_in.result
    (c.session.ensures.session ∙ ap (λ (row : GameInPlay). row.session) (sym (ap play_in c.in-One.is))
    ∙ c.sized.ensures.session)
    c.place_in.ensures

pub returns-in-Two : goal.returns-in-Two
returns-in-Two c =
    place_there c.session-in-Two.result.now.session c.args.play.now.session c.place_in-in-Two.result
    (c.session-in-Two.ensures.session ∙ ap (λ (row : GameInPlay). row.session) (sym (ap play_in c.in-Two.is))
    ∙ c.sized.ensures.session)
    c.place_in-in-Two.ensures

pub returns-in-Three : goal.returns-in-Three
returns-in-Three c =
    place_there c.session-in-Three.result.now.session c.args.play.now.session c.place_in-in-Three.result
    (c.session-in-Three.ensures.session ∙ ap (λ (row : GameInPlay). row.session) (sym (ap play_in c.in-Three.is))
    ∙ c.sized.ensures.session)
    c.place_in-in-Three.ensures

pub returns-in-Four : goal.returns-in-Four
returns-in-Four c =
    place_there c.session-in-Four.result.now.session c.args.play.now.session c.place_in-in-Four.result
    (c.session-in-Four.ensures.session ∙ ap (λ (row : GameInPlay). row.session) (sym (ap play_in c.in-Four.is))
    ∙ c.sized.ensures.session)
    c.place_in-in-Four.ensures
