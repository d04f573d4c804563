use Rattle.std.proofs.Common.{◌≡◌, ◌∙◌, ◌+◌, ◌*◌, ◌<◌, ◌&&◌, ℕ, Bool, Option, option_map, false, refl, sym, ap}
use Rattle.std.specs.Prelude.{not}
use Rattle.ps_model.specs.names.Names.{Meaning}
use Rattle.ps_model.specs.board.Grid.{Grid, cell_at}
use Rattle.ps_model.specs.board.Winning.{is_in, is_place}
use Rattle.ps_board.specs.ColumnSets.{columns_below}
use Rattle.ps_board.proofs.Taken.{below-init, below-more, passed-all, passed-init, passed-more, taken_below}
use Rattle.ps_names.specs.Shown.{meaning_shown}
use Rattle.ps_turn.specs.RowsOfCells.{is_missed}
use Rattle.ps_turn.proofs.RowsOfCells.{all_kept, no_cell_passes, row_passes, row_without}
use Rattle.ps_turn.proofs.winning.all_met.Goals as goal

pub loop-row-init : goal.loop-row-init
loop-row-init g c =
    let grid : Grid = g.B.Board.grid c.args.board.now in
    let subject : Meaning = meaning_shown c.args.win.now.subject in
    let place : Option Meaning = option_map meaning_shown c.args.win.now.place in
    let test : ℕ → Bool = λ n. is_missed subject place (cell_at grid n) in
    let below : c.below.result ≡ columns_below grid.height = c.below.ensures
    ∙ ap columns_below c.size-height.ensures.height in
    record {
      low = below-init c.rows_meant-rows.result c.below.result c.both-left.result grid.height below c.both-left.ensures;
      passed =
          passed-init (λ row. (x : ℕ) → x < grid.width →
          test (x * grid.height + row) ≡ false) c.rows_meant-rows.result c.below.result c.both-left.result
          grid.height c.size-height.ensures.shape.rows below
          c.both-left.ensures (λ row low out x across.
          ap (λ (b : Bool). b && not (is_place place (cell_at grid (x * grid.height + row))))
          (c.rows_meant-rows.ensures row low out x across));
    }

pub columns_missed-requires : goal.columns_missed-requires
columns_missed-requires g c = taken_below c.loop-row.left c.take_first.new.self _ c.in-Some.row c.in-Some.ensures.some
    c.loop-row.invariant.low

pub returns-then-not-is_empty : goal.returns-then-not-is_empty
returns-then-not-is_empty g c =
    let grid : Grid = g.B.Board.grid c.args.board.now in
    let subject : Meaning = meaning_shown c.args.win.now.subject in
    let place : Option Meaning = option_map meaning_shown c.args.win.now.place in
    let test : ℕ → Bool = λ n. is_missed subject place (cell_at grid n) in
    let within : c.in-Some.row < grid.height =
    taken_below c.loop-row.left c.take_first.new.self grid.height c.in-Some.row c.in-Some.ensures.some
    c.loop-row.invariant.low in
    sym (all_kept (is_in subject) (is_place place) grid.cells
    ∙ ap not (row_passes (is_missed subject place) grid c.size-height.ensures.shape c.in-Some.row
    c.columns_missed.result within c.columns_missed.ensures (c.is_empty.ensures.some c.if-not-is_empty.true)))

pub loop-row-preserved : goal.loop-row-preserved
loop-row-preserved g c =
    let grid : Grid = g.B.Board.grid c.args.board.now in
    let subject : Meaning = meaning_shown c.args.win.now.subject in
    let place : Option Meaning = option_map meaning_shown c.args.win.now.place in
    let test : ℕ → Bool = λ n. is_missed subject place (cell_at grid n) in
    record {
      low = below-more c.loop-row.left c.take_first.new.self grid.height c.in-Some.row c.in-Some.ensures.some
          c.loop-row.invariant.low;
      passed =
          passed-more (λ row. (x : ℕ) → x < grid.width →
          test (x * grid.height + row) ≡ false) c.loop-row.left c.take_first.new.self grid.height c.in-Some.row
          c.size-height.ensures.shape.rows
          c.in-Some.ensures.some
          (row_without test grid.width grid.height c.in-Some.row c.columns_missed.result
          c.size-height.ensures.shape.columns c.columns_missed.ensures
          (c.is_empty.ensures.none c.if-not-is_empty.false))
          c.loop-row.invariant.passed;
    }

pub returns : goal.returns
returns g c =
    let grid : Grid = g.B.Board.grid c.args.board.now in
    let subject : Meaning = meaning_shown c.args.win.now.subject in
    let place : Option Meaning = option_map meaning_shown c.args.win.now.place in
    let test : ℕ → Bool = λ n. is_missed subject place (cell_at grid n) in
    sym (all_kept (is_in subject) (is_place place) grid.cells
    ∙ ap not (no_cell_passes (is_missed subject place) grid c.size-height.ensures.shape
    (λ x row across down.
    passed-all (λ row. (x : ℕ) → x < grid.width →
    test (x * grid.height + row) ≡ false) c.loop-row.left grid.height row c.size-height.ensures.shape.rows
    (c.in_default.ensures.none refl)
    c.loop-row.invariant.passed down x across)))
