use Rattle.std.proofs.Common.{◌≡◌, ◌∙◌, ◌+◌, ◌*◌, ◌%◌, ◌<◌, ℕ, Bool, List, [], not, sym, ap, arith}
use Rattle.std.proofs.lemmas.Nat.{mod_below}
use Rattle.ps_board.specs.ColumnSets.{column_at, set_columns}
use Rattle.ps_board.specs.declared.one_word.TheConstants.{WORD_BITS}
use Rattle.ps_board.proofs.EmptySets.{in_neither}
use Rattle.ps_program.specs.declared.motion_sets.TheConstants.{MOTIONS, PLACED_LAYERS}
use Rattle.ps_rows.specs.Planes.{row_of}
use Rattle.ps_rows.specs.Showing.{motions_from}
use Rattle.ps_rows.proofs.LayerMotions.{ahead_at, no_places, places_more, unmarked}
use Rattle.ps_rows.proofs.row_board.RowBoard.with_motions_of.Goals as goal

pub returns : goal.returns
returns g c =
    let b = c.args.self.now in
    let index : List (List Bool) = b.planes.index.items in
    let first : ℕ = c.motions_from-first.result in
    let own : ℕ = motions_from b.members.table.items c.args.layer in
    let start : ℕ = MOTIONS * (c.args.layer % PLACED_LAYERS) in
    let low : c.args.layer % PLACED_LAYERS < PLACED_LAYERS = mod_below c.args.layer PLACED_LAYERS (omega arith) in
    let P : ℕ → Type 0 = λ k. set_columns (row_of index (own + k)) ≡ [] in
    let one = places_more P 0 0 1 0 c.none.result c.with.result (not c.is_empty.result) (omega arith)
    (omega arith) (omega arith) c.with.ensures
    (unmarked index first (own + 0) c.rows_of.result c.is_empty.result c.rows_of.ensures (omega arith)
    c.is_empty.ensures.none) (no_places P 0 c.none.result) in
    let two = places_more P 0 1 2 1 c.with.result c.with-2.result (not c.is_empty-2.result) (omega arith)
    (omega arith) (omega arith) c.with-2.ensures
    (unmarked index (first + 1) (own + 1) c.rows_of-2.result c.is_empty-2.result c.rows_of-2.ensures (omega arith)
    c.is_empty-2.ensures.none) one in
    let three = places_more P 0 2 3 2 c.with-2.result c.with-3.result (not c.is_empty-3.result) (omega arith)
    (omega arith) (omega arith) c.with-3.ensures
    (unmarked index (first + 2) (own + 2) c.rows_of-3.result c.is_empty-3.result c.rows_of-3.ensures (omega arith)
    c.is_empty-3.ensures.none) two in
    let four = places_more P 0 3 4 3 c.with-3.result c.with-4.result (not c.is_empty-4.result) (omega arith)
    (omega arith) (omega arith) c.with-4.ensures
    (unmarked index (first + 3) (own + 3) c.rows_of-4.result c.is_empty-4.result c.rows_of-4.ensures (omega arith)
    c.is_empty-4.ensures.none) three in
    let five = places_more P 0 4 5 4 c.with-4.result c.with-own.result (not c.is_empty-5.result) (omega arith)
    (omega arith) (omega arith) c.with-own.ensures
    (unmarked index (first + 4) (own + 4) c.rows_of-5.result c.is_empty-5.result c.rows_of-5.ensures (omega arith)
    c.is_empty-5.ensures.none) four in
    let apart = in_neither c.args.motions c.ahead.result c.either.result in
    record {
      own = λ k few off.
          let inside : start + k < WORD_BITS = omega (arith, few, low) in
          let at : 0 + k ≡ k = omega arith in
          five k few
          (ap (column_at c.with-own.result) at
          ∙ sym (ahead_at c.with-own.result c.ahead.result WORD_BITS start k c.ahead.ensures (omega arith) inside)
          ∙ (apart (start + k) c.either.ensures (omega (arith, few, low)) off).1);
      kept = λ place few off. (apart place c.either.ensures (omega (arith, few)) off).0;
    }
