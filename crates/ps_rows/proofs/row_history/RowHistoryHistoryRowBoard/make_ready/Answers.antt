use Rattle.std.proofs.Common.{◌≡◌, ◌∙◌, ap, sym, subst, Option, Some}
use Rattle.std.specs.Prelude.{IfSome}
use Rattle.ps_board.specs.Histories.{BoardShown, latest_board}
use Rattle.ps_board.specs.Rows.{DifferOnlyOn}
use Rattle.ps_rows.specs.RowHistories.{HistoryShown, kept, shown}
use Rattle.ps_rows.specs.Showing.{grid_shown}
use Rattle.ps_rows.proofs.RowHistories.{latest_shown}
use Rattle.ps_rows.proofs.row_history.RowHistoryHistoryRowBoard.make_ready.Goals.{in-None+in_ok-copied_over-in-None}
use Rattle.ps_rows.proofs.row_history.RowHistoryHistoryRowBoard.make_ready.Goals.{in-Some+in_ok-step-in-Some}
use Rattle.ps_rows.proofs.row_history.RowHistoryHistoryRowBoard.make_ready.Goals as goal

pub step_to-requires : goal.step_to-requires
step_to-requires g c =
    let b = c.args.board.now in
    let l = c.in-Some.latest.value in
    let known : latest_board c.args.self.now.boards
    ≡ Some (shown (kept l.members.table.items l.width l.planes.height l.layers l.planes.words.items)) =
    ap (λ (history : HistoryShown). latest_board history.boards) (sym c.self.view_is)
    ∙ latest_shown _ c.self.inside.latest c.in-Some.latest c.self.inside.steps.items (sym c.in-Some.is) in
    let P : Option BoardShown → Type 0 = λ o. IfSome c.args.rows (λ rows. IfSome o (λ latest.
    DifferOnlyOn rows.now latest.grid
    (grid_shown b.members.table.items b.width b.planes.height b.layers b.planes.words.items))) in
    rw c.deref.ensures (subst P known c.requires)

pub invariant_of-self : goal.invariant_of-self
invariant_of-self g c = c.self.invariant

pub invariant_of-self-2 : goal.invariant_of-self-2
invariant_of-self-2 g c = elim c.match-self.branch [
  | in-None+in_ok-copied_over-in-None w ↦ rw (w.step-is, w.self-inside-is) (
    c.self.invariant.0,
    (c.self.invariant.1.0, rw w.in-None.is tt),
  )
  | in-Some+in_ok-step-in-Some w ↦ rw (w.step-is, w.self-inside-is) (
    c.self.invariant.0,
    (
      c.self.invariant.1.0,
      rw w.in-Some.is (
        rw w.deref.ensures at w.in_ok-step-in-Some.ensures.on,
        rw w.deref.ensures at w.in_ok-step-in-Some.ensures.back,
      ),
    ),
  )
]

pub returns-clause-boards : goal.returns-clause-boards
returns-clause-boards g c = elim c.match-self.branch [
  | in-None+in_ok-copied_over-in-None w ↦ rw w.self-inside-is
      (ap (λ (history : HistoryShown). history.boards) c.self.view_is)
  | in-Some+in_ok-step-in-Some w ↦ rw w.self-inside-is
      (ap (λ (history : HistoryShown). history.boards) c.self.view_is)
]

pub returns-clause-ready : goal.returns-clause-ready
returns-clause-ready g c = elim c.match-self.branch [
  | in-None+in_ok-copied_over-in-None w ↦ rw (w.step-is, w.self-inside-is, w.in-None.is)
      (ap Some w.in_ok-copied_over-in-None.ensures)
  | in-Some+in_ok-step-in-Some w ↦ rw (w.step-is, w.self-inside-is, w.in-Some.is)
      (ap Some (rw w.deref.ensures at w.in_ok-step-in-Some.ensures.shown))
]
