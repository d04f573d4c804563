use Rattle.std.proofs.Common.{◌+◌, ◌*◌, ◌&&◌, ◌∙◌, Bool, false, List, subst, sym, ap, arith}
use Rattle.ps_model.specs.board.Grid.{Grid, cell_at}
use Rattle.ps_board.specs.ColumnSets.{column_at}
use Rattle.ps_board.proofs.ColumnLaws.{none_in}
use Rattle.ps_rows.specs.Planes.{IsSet}
use Rattle.ps_rows.specs.Showing.{grid_shown}
use Rattle.ps_rows.specs.RowTests.{held_of_each}
use Rattle.ps_rows.proofs.RowsKept.{kept_both}
use Rattle.ps_rows.proofs.Sets.{none_at, set_where}
use Rattle.ps_rows.proofs.row_board.RowBoard.listed_row.Goals as goal

pub returns-then-is_empty-clause-kept : goal.returns-then-is_empty-clause-kept
returns-then-is_empty-clause-kept g c =
    let b = c.args.self.now in
    let grid : Grid = grid_shown b.members.table.items b.width b.planes.height b.layers b.planes.words.items in
    record {
      part = λ x across.
          let asked : Bool = held_of_each c.args.lists.now (cell_at grid (x * b.planes.height + c.args.row)) in
          ap (λ (set : List Bool). column_at set x) c.none.ensures ∙ none_at x
          ∙ sym (ap (λ (t : Bool). t && asked)
          (none_in c.args.columns x (c.is_empty.ensures.none c.if-is_empty.true) (omega (arith, across, b.columns))));
      within = λ within x off low. ap (λ (set : List Bool). column_at set x) c.none.ensures ∙ none_at x;
      set = λ so.
          let P : List Bool → Type 0 = λ set. IsSet set in
          subst P (sym c.none.ensures) (set_where (λ x. false));
    }

pub returns-then-is_empty-clause-set : goal.returns-then-is_empty-clause-set
returns-then-is_empty-clause-set g c =
    let P : List Bool → Type 0 = λ set. IsSet set in
    subst P (sym c.none.ensures) (set_where (λ x. false))

pub returns-clause-kept : goal.returns-clause-kept
returns-clause-kept g c =
    let b = c.args.self.now in
    let grid : Grid = grid_shown b.members.table.items b.width b.planes.height b.layers b.planes.words.items in
    kept_both grid c.args.row c.args.columns (held_of_each c.args.lists.now) c.lists_row.result c.both.result
    b.columns c.lists_row.ensures c.both.ensures

pub returns-clause-set : goal.returns-clause-set
returns-clause-set g c =
    let P : List Bool → Type 0 = λ set. IsSet set in
    subst P (sym c.both.ensures) (set_where (λ x. column_at c.args.columns x && column_at c.lists_row.result x))
