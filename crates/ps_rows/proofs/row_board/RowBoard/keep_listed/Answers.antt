use Rattle.std.proofs.Common.{ap, rules}
use Rattle.std.specs.List.{list_all, list_any}
use Rattle.std.proofs.lemmas.List.{nil_from_length}
use Rattle.ps_model.specs.meaning.Compiled.{is_held_in}
use Rattle.ps_rows.specs.Showing.{grid_shown}
use Rattle.ps_rows.specs.RowTests.{held_of_each}
use Rattle.ps_rows.proofs.RowsKept.{kept_at_first}
use Rattle.ps_rows.proofs.row_board.RowBoard.keep_listed.Goals as goal

pub returns-then-is_empty : goal.returns-then-is_empty
returns-then-is_empty g c =
    let b = c.args.self.now in
    kept_at_first (grid_shown b.members.table.items b.width b.planes.height b.layers b.planes.words.items) c.args.first
    c.args.found.now (held_of_each c.args.lists.now)
    (λ cell. ap (λ xs. list_all (λ objects. list_any (is_held_in cell) objects) xs)
    (nil_from_length c.args.lists.now (search rules)))
