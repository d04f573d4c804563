use Rattle.std.proofs.Common.{◌∙◌, ap, sym}
use Rattle.ps_board.specs.Histories.{boards_before}
use Rattle.ps_rows.specs.RowHistories.{HistoryShown}
use Rattle.ps_rows.proofs.RowHistories.{gone_all, gone_are, gone_boards, gone_leads, gone_rest, none_are, none_left}
use Rattle.ps_rows.proofs.row_history.RowHistoryHistoryRowBoard.go_back.Goals as goal

pub returns-in_default-pop_back : goal.returns-in_default-pop_back
returns-in_default-pop_back g c =
    rw c.take.ensures.after
    (gone_all _ c.self.inside.latest c.in-Some.latest c.self.inside.steps.items c.in-Some.ensures.value
    c.in_default-pop_back.ensures.value
    ∙ ap (λ (history : HistoryShown). boards_before history.boards) c.self.view_is)

pub taken-board-requires : goal.taken-board-requires
taken-board-requires g c =
    gone_leads _ c.self.inside.latest c.in-Some.latest c.in-Some-pop_back.step c.self.inside.steps.items
    c.in-Some.ensures.value c.in-Some-pop_back.ensures.value c.self.invariant.1.0

pub invariant_of-self-2 : goal.invariant_of-self-2
invariant_of-self-2 g c = (
  ap (λ ring. ring.capacity) c.pop_back.ensures.items ∙ c.self.invariant.0,
  (
    gone_are _ c.self.inside.latest c.in-Some.latest c.taken-board.result.0 c.in-Some-pop_back.step
        c.self.inside.steps.items c.pop_back.new.self.items c.in-Some.ensures.value c.in-Some-pop_back.ensures.value
        (ap (λ ring. ring.items) c.pop_back.ensures.items) c.taken-board.ensures.forth c.self.invariant.1.0,
    tt,
  ),
)

pub returns : goal.returns
returns g c =
    gone_boards _ c.self.inside.latest c.in-Some.latest c.taken-board.result.0 c.in-Some-pop_back.step
    c.self.inside.steps.items c.pop_back.new.self.items c.in-Some.ensures.value c.in-Some-pop_back.ensures.value
    (ap (λ ring. ring.items) c.pop_back.ensures.items) c.taken-board.ensures.forth
    ∙ ap (λ (history : HistoryShown). boards_before history.boards) c.self.view_is

pub invariant_of-self : goal.invariant_of-self
invariant_of-self g c = (
  c.self.invariant.0,
  (
    none_are _ c.self.inside.latest c.take.new.self c.self.inside.steps.items
        (c.take.ensures.after ∙ sym c.in_default.is ∙ c.take.ensures.value) c.self.invariant.1.0,
    tt,
  ),
)

pub returns-in_default : goal.returns-in_default
returns-in_default g c =
    none_left _ c.self.inside.latest c.take.new.self c.self.inside.steps.items c.take.ensures.after
    (sym c.take.ensures.value ∙ c.in_default.is)
    ∙ ap (λ (history : HistoryShown). boards_before history.boards) c.self.view_is

pub invariant_of-self-in_default-pop_back : goal.invariant_of-self-in_default-pop_back
invariant_of-self-in_default-pop_back g c = (
  ap (λ ring. ring.capacity) c.pop_back.ensures.items ∙ c.self.invariant.0,
  (
    gone_rest _ c.take.new.self c.self.inside.steps.items c.pop_back.new.self.items c.take.ensures.after
        c.in_default-pop_back.ensures.value (ap (λ ring. ring.items) c.pop_back.ensures.items),
    tt,
  ),
)
