use Rattle.std.proofs.Common.{◌∙◌, List, ap, sym}
use Rattle.ps_model.specs.board.Grid.{Grid}
use Rattle.ps_stage.specs.Locations.{location_shown}
use Rattle.ps_stage.specs.Standings.{SessionValue}
use Rattle.ps_session.specs.Histories.{grids_of}
use Rattle.ps_session.proofs.session.Session.level.Goals as goal

pub returns-in-Playing-clause-level : goal.returns-in-Playing-clause-level
returns-in-Playing-clause-level g c =
    let history : List Grid = grids_of (g.H.History.boards c.self.inside.history) in (
      history,
      sym (ap (λ (s : SessionValue). s.session) c.self.view_is) ∙ ap (location_shown history) c.in-Playing.is,
    )

pub returns-in-Waiting-clause-level : goal.returns-in-Waiting-clause-level
returns-in-Waiting-clause-level g c =
    let history : List Grid = grids_of (g.H.History.boards c.self.inside.history) in (
      history,
      sym (ap (λ (s : SessionValue). s.session) c.self.view_is) ∙ ap (location_shown history) c.in-Waiting.is,
    )
