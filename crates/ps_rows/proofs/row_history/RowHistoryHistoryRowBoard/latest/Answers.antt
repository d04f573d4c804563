use Rattle.std.proofs.Common.{◌∙◌, ap, sym}
use Rattle.ps_board.specs.Histories.{latest_board}
use Rattle.ps_rows.specs.RowHistories.{HistoryShown}
use Rattle.ps_rows.proofs.RowHistories.{latest_shown}
use Rattle.ps_rows.proofs.row_history.RowHistoryHistoryRowBoard.latest.Goals as goal

pub returns-in-Some-clause-some : goal.returns-in-Some-clause-some
returns-in-Some-clause-some g c =
    rw c.deref.ensures
    (ap (λ (history : HistoryShown). latest_board history.boards) (sym c.self.view_is)
    ∙ latest_shown _ c.self.inside.latest c.in-Some.board c.self.inside.steps.items (sym c.in-Some.is))
