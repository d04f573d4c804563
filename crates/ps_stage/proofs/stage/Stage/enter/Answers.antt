use Rattle.std.proofs.Common.{◌≡◌, ◌∙◌, true, sym, ap}
use Rattle.ps_stage.specs.OwnBoards.{has_boards}
use Rattle.ps_stage.specs.Standings.{StageValue}
use Rattle.ps_stage.proofs.OwnBoards.{fits_there}
use Rattle.ps_stage.proofs.stage.Stage.enter.Goals as goal

pub returns-then-not-has_boards-clause-elsewhere : goal.returns-then-not-has_boards-clause-elsewhere
returns-then-not-has_boards-clause-elsewhere g c =
    sym (ap (λ (stage : StageValue). has_boards stage.game c.args.entry) c.self.view_is)
    ∙ sym c.has_boards.ensures ∙ c.if-not-has_boards.true

pub returns-clause-boards : goal.returns-clause-boards
returns-clause-boards g c before =
    let fits : has_boards c.args.self.now.game c.args.entry ≡ true =
    sym (ap (λ (stage : StageValue). has_boards stage.game c.args.entry) c.self.view_is)
    ∙ sym c.has_boards.ensures ∙ c.if-not-has_boards.false in
    fits_there c.args.self.now.game before c.args.entry c.in_ok-location.location fits c.in_ok-location.ensures.entry
