use Rattle.std.proofs.Common.{◌∙◌, ap, ◌++◌, ◌∷◌, []}
use Rattle.ps_board.specs.Histories.{boards_kept}
use Rattle.ps_rows.specs.RowHistories.{HistoryShown}
use Rattle.ps_rows.proofs.RowHistories.{entered_are, entered_boards, first_are, first_boards, ready_leads}
use Rattle.ps_rows.proofs.row_history.RowHistoryHistoryRowBoard.enter.Goals as goal

pub invariant_of-self-in_default-take : goal.invariant_of-self-in_default-take
invariant_of-self-in_default-take g c =
    rw (c.first_board.ensures, c.take.ensures.after) (
      c.self.invariant.0,
      (
        first_are _ c.self.inside.latest c.in-Some.step c.self.inside.steps.items
            c.in_default-take.ensures.value c.self.invariant.1.0,
        tt,
      ),
    )

pub returns-in_default-take : goal.returns-in_default-take
returns-in_default-take g c = λ board ready.
    rw c.first_board.ensures
    (first_boards _ c.self.inside.latest c.self.inside.ready c.in-Some.step c.self.inside.steps.items board
    c.in_default-take.ensures.value c.in-Some.ensures.value c.self.invariant.1.0
    (ap (λ (history : HistoryShown). history.ready) c.self.view_is ∙ ready)
    ∙ ap (λ (history : HistoryShown). boards_kept (history.boards ++ board ∷ [])) c.self.view_is)

pub taken-board-requires : goal.taken-board-requires
taken-board-requires g c =
    (ready_leads _ c.self.inside.latest c.self.inside.ready c.in-Some-take.latest c.in-Some.step
    c.in-Some-take.ensures.value c.in-Some.ensures.value c.self.invariant.1.1).0

pub invariant_of-self-2 : goal.invariant_of-self-2
invariant_of-self-2 g c =
    rw c.take.ensures.after (
      ap (λ ring. ring.capacity) c.push_back.ensures.items ∙ c.self.invariant.0,
      (
        entered_are _ c.self.inside.latest c.self.inside.ready c.in-Some-take.latest c.taken-board.result.0
            c.in-Some.step c.taken-board.result.1 c.self.inside.steps.items c.push_back.new.self.items
            c.self.inside.steps.capacity c.in-Some-take.ensures.value c.in-Some.ensures.value
            c.taken-board.ensures.back c.self.invariant.0
            (ap (λ ring. ring.items) c.push_back.ensures.items) c.self.invariant.1.1
            (record { objects = c.in-Some-take.latest.value.objects; motions = c.in-Some-take.latest.value.motions })
            c.self.invariant.1.0,
        tt,
      ),
    )

pub returns : goal.returns
returns g c = λ board ready.
    entered_boards _ c.self.inside.latest c.self.inside.ready c.in-Some-take.latest c.taken-board.result.0
    c.in-Some.step c.taken-board.result.1 c.self.inside.steps.items c.push_back.new.self.items
    c.self.inside.steps.capacity board c.in-Some-take.ensures.value c.in-Some.ensures.value c.taken-board.ensures.forth
    c.taken-board.ensures.back c.self.invariant.0
    (ap (λ ring. ring.items) c.push_back.ensures.items) c.self.invariant.1.1
    (ap (λ (history : HistoryShown). history.ready) c.self.view_is ∙ ready)
    ∙ ap (λ (history : HistoryShown). boards_kept (history.boards ++ board ∷ [])) c.self.view_is
