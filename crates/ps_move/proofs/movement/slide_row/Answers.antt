use Rattle.std.proofs.Common.{◌≡◌, ◌∙◌, ℕ, ◌+◌, ◌*◌, ◌<◌, ◌||◌, inl, inr, Bool, List, [], refl, sym, ap, arith}
use Rattle.std.proofs.Common.{subst}
use Rattle.std.proofs.lemmas.Bool.{cases_eq, ne_eqb}
use Rattle.ps_model.specs.declared.limits.TheConstants.{SIDE_LIMIT}
use Rattle.ps_model.specs.board.Grid.{Grid}
use Rattle.ps_board.specs.ColumnSets.{column_at, set_columns}
use Rattle.ps_board.specs.RowsOfGrids.{row_movers}
use Rattle.ps_board.proofs.ColumnLaws.{none_in}
use Rattle.ps_board.proofs.PassedColumns.{cell_below}
use Rattle.ps_board.proofs.Taken.{AreBelow, below-more, taken_below, taken_out}
use Rattle.ps_move.specs.Parts.{IsStuck}
use Rattle.ps_move.proofs.Movers.{movers_below, movers_beside}
use Rattle.ps_move.proofs.Parts.{part_none, part_then, still_stuck, stuck_still}
use Rattle.ps_move.proofs.movement.slide_row.Goals as goal

pub loop-column-init : goal.loop-column-init
loop-column-init g c =
    let old : Grid = g.B.Board.grid c.args.board.now in
    let layer : ℕ = (c.args.layer).0 in
    let movers : List Bool = row_movers old layer c.args.row in
    let set : List Bool = c.movers-left.result in
    let same : set ≡ movers = c.movers-left.ensures in
    record {
      part = part_none old layer;
      below = subst (AreBelow old.width) (sym same)
          (record { at = movers_below old layer c.args.row c.requires.shape });
      stuck = λ column across out. still_stuck old layer (column * old.height + c.args.row)
          (movers_beside old layer c.args.row c.requires.shape column across
          (ap (λ (columns : List Bool). column_at columns column) (sym same) ∙ out));
      table = refl;
      origin = refl;
    }

pub visit-moved-requires-clause-shape : goal.visit-moved-requires-clause-shape
visit-moved-requires-clause-shape g c = c.loop-column.invariant.part.shape c.requires.shape

pub visit-moved-requires-clause-place : goal.visit-moved-requires-clause-place
visit-moved-requires-clause-place g c =
    let old : Grid = g.B.Board.grid c.args.board.now in
    let was = c.loop-column.invariant in
    let across : c.in-Some.column < old.width =
    taken_below c.loop-column.left c.take_first.new.self old.width c.in-Some.column c.in-Some.ensures.some was.below in
    let within = cell_below old.width old.height c.in-Some.column c.args.row across c.requires.row in (
      rw (was.part.width, was.part.height, c.size-height.ensures.height) within,
      rw was.part.layers c.requires.layer,
    )

pub loop-column-preserved : goal.loop-column-preserved
loop-column-preserved g c =
    let old : Grid = g.B.Board.grid c.args.board.now in
    let now : Grid = g.B.Board.grid c.loop-column.board in
    let new : Grid = g.B.Board.grid c.visit-moved.new.board in
    let layer : ℕ = (c.args.layer).0 in
    let set : List Bool = c.loop-column.left in
    let left : List Bool = c.take_first.new.self in
    let column : ℕ = c.in-Some.column in
    let was = c.loop-column.invariant in
    let some = c.in-Some.ensures.some in
    let at : column * c.size-height.result.1 + c.args.row ≡ column * old.height + c.args.row =
    ap (λ (height : ℕ). column * height + c.args.row) c.size-height.ensures.height in
    record {
      part = part_then c.loop-column.passes c.visit-moved.result c.most-passes.result old now new layer
          c.most-passes.ensures.first c.most-passes.ensures.second c.most-passes.ensures.sum was.part
          c.visit-moved.ensures.part;
      below = below-more set left old.width column some was.below;
      stuck = λ other across out. elim (cases_eq other column) [
        | inl e ↦
            let here : column * c.size-height.result.1 + c.args.row ≡ other * old.height + c.args.row =
            at ∙ ap (λ (x : ℕ). x * old.height + c.args.row) (sym e) in
            subst (IsStuck new layer) here c.visit-moved.ensures.stuck
        | inr apart ↦
            let narrow : other < SIDE_LIMIT = omega (arith, across, c.requires.shape.columns) in
            stuck_still c.visit-moved.result now new layer (other * old.height + c.args.row)
            c.visit-moved.ensures.part
            (was.stuck other across (taken_out set left column other some narrow
            ∙ ap (λ (b : Bool). b || column_at left other) (ne_eqb other column apart) ∙ out))
      ];
      table = c.visit-moved.ensures.table ∙ was.table;
      origin = c.visit-moved.ensures.origin ∙ was.origin;
    }

pub returns-clause-stuck : goal.returns-clause-stuck
returns-clause-stuck g c = λ column across.
    let old : Grid = g.B.Board.grid c.args.board.now in
    let now : Grid = g.B.Board.grid c.loop-column.board in
    let was = c.loop-column.invariant in
    let empty : set_columns c.loop-column.left ≡ [] = c.in_default.ensures.none refl in
    let across' : column < old.width = rw (← was.part.width) across in
    let narrow : column < SIDE_LIMIT = omega (arith, across', c.requires.shape.columns) in
    subst (λ (height : ℕ). IsStuck now (c.args.layer).0 (column * height + c.args.row)) (sym was.part.height)
    (was.stuck column across' (none_in c.loop-column.left column empty narrow))
