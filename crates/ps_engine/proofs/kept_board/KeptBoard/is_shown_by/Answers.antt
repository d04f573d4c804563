use Rattle.std.proofs.Common.{◌∙◌, Some, refl, sym, ap}
use Rattle.ps_laws.proofs.common.SameThings.{same_grid}
use Rattle.ps_engine.proofs.kept_board.KeptBoard.is_shown_by.Goals as goal

pub returns-then-is_alike : goal.returns-then-is_alike
returns-then-is_alike g c = λ same.
    let now = g.B.Board.grid c.args.board.now in
    let kept = g.B.Board.grid c.in-Some.kept in
    let size = c.if-is_alike.ensures in
    rw (← c.self.view_is, c.in-Some.is)
    (ap Some (sym (same_grid now kept (sym (size.width refl)) (sym (size.height refl)) (sym (size.layers refl))
    (sym c.same.ensures ∙ same))))
