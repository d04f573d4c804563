use Rattle.std.proofs.Common.{◌≡◌, drop}
use Rattle.std.specs.List.{list_all, list_any}
use Rattle.ps_model.specs.board.Grid.{cell_at}
use Rattle.ps_model.specs.meaning.Compiled.{is_held_in}
use Rattle.ps_match.proofs.fitting.holds_of_each.Given as goal

-- the lists passed by have one each
abbrev pub invariant-loop-objects : goal.invariant-loop-objects
invariant-loop-objects g l =
    list_all (λ objects. list_any (is_held_in (cell_at (g.B.Board.grid l.board) l.cell)) objects) l.lists
    ≡ list_all (λ objects. list_any (is_held_in (cell_at (g.B.Board.grid l.board) l.cell)) objects)
    (drop l.objects-index l.lists)
