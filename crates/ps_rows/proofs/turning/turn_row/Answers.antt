use Rattle.std.proofs.Common.{rules, ◌≡◌, ◌∙◌, ◌<◌, ◌≤◌, ◌*◌, ◌+◌, ℕ, Bool, List, length, refl, sym, ap, ap₂, subst, arith}
use Rattle.ps_board.specs.ColumnSets.{both_columns, column_at, columns_below, unlike_columns}
use Rattle.ps_rows.specs.PackedKeys.{AreTurned}
use Rattle.ps_rows.specs.Planes.{row_of}
use Rattle.ps_rows.specs.TurnedPlaces.{in_row, row_differs}
use Rattle.ps_rows.proofs.TurnedKeys.{kept-more, so_far-all, so_far-init, so_far-more}
use Rattle.ps_rows.proofs.TurnedPlaces.{differing_at, plane_enough, planes_first, planes_more, planes_none}
use Rattle.ps_rows.proofs.TurnedPlaces.{row_differs_from, some_cell, within_all}
use Rattle.ps_rows.proofs.turning.turn_row.Goals as goal

pub turn_columns-requires : goal.turn_columns-requires
turn_columns-requires g c = (
  search rules,
  (
    (rw c.loop-plane.invariant.height c.requires.row),
    (
      (let n = c.args.noted.now in
          let b = c.args.from.now in
          let was = c.loop-plane.invariant in
          let plane : ℕ = c.loop-plane.plane in
          let low : plane < length b.members.table.items =
          omega (arith, c.loop-plane-test.true, c.objects-plane-end.ensures) in
          let long : length b.members.table.items * (n.width * n.height) ≤ length n.numbers.items =
          omega (arith, c.requires.long) in
          let enough = plane_enough (length b.members.table.items) plane (n.width * n.height) (length n.numbers.items) low
          long in
          rw (was.width, was.height, was.long) enough),
      (
        (λ x few on.
            let b = c.args.from.now in
            let was = c.loop-plane.invariant in
            let across : x < b.width = within_all c.unlike-differing.result b.all_columns b.width x b.all few
            (ap (λ (set : List Bool). column_at set x) (sym c.both.ensures) ∙ on) in
            rw was.width (rw c.requires.width at across)),
        (c.loop-plane.invariant.so_far.within),
      ),
    ),
  ),
)

pub loop-plane-init : goal.loop-plane-init
loop-plane-init g c =
    let n = c.args.noted.now in
    let b = c.args.from.now in
    let words = b.planes.words.items in
    let others = c.args.to.now.planes.words.items in
    let objects : ℕ = length b.members.table.items in
    record {
      so_far = so_far-init (row_differs n.width n.height objects words others c.args.row) n.numbers.items
          (length n.places.items) c.args.key.now.words
          (row_differs_from n.width n.height objects words others c.args.row 0)
          (planes_first n.width n.height (some_cell n.width n.height n.some_column n.some_row) n.some_row n.narrow n.short
          objects c.args.row words others) c.requires.within;
      long = refl;
      width = refl;
      height = refl;
    }

pub loop-plane-preserved : goal.loop-plane-preserved
loop-plane-preserved g c =
    let n = c.args.noted.now in
    let b = c.args.from.now in
    let was = c.loop-plane.invariant in
    let now = c.loop-plane.noted in
    let then = c.turn_columns.new.noted in
    let words = b.planes.words.items in
    let others = c.args.to.now.planes.words.items in
    let objects : ℕ = length b.members.table.items in
    let row : ℕ = c.args.row in
    let plane : ℕ = c.loop-plane.plane in
    let columns : List Bool = c.both.result in
    let low : plane < objects = omega (arith, c.loop-plane-test.true, c.objects-plane-end.ensures) in
    let W : ℕ → Type 0 = λ width. AreTurned (in_row width now.height plane row columns) now.numbers.items
    c.loop-plane.key.words (length then.places.items) then.numbers.items c.turn_columns.new.key.words in
    let H : ℕ → Type 0 = λ height. AreTurned (in_row n.width height plane row columns) now.numbers.items
    c.loop-plane.key.words (length then.places.items) then.numbers.items c.turn_columns.new.key.words in
    let one : List Bool = row_of words (plane * n.height + row) in
    let two : List Bool = row_of others (plane * n.height + row) in
    let mine : c.row.result ≡ one = c.row.ensures ∙ ap (λ (h : ℕ). row_of words (plane * h + row)) c.requires.height in
    let its : c.row-in-loop-plane.result ≡ two = c.row-in-loop-plane.ensures ∙ ap (λ (h : ℕ). row_of others (plane * h + row))
    (c.requires.like_height ∙ c.requires.height) in
    let made : columns ≡ both_columns (unlike_columns one two) b.all_columns =
    c.both.ensures ∙ ap (λ (set : List Bool). both_columns set b.all_columns)
    (c.unlike-differing.ensures ∙ ap₂ unlike_columns mine its) in
    record {
      so_far = so_far-more (row_differs n.width n.height objects words others row) n.numbers.items
          (length n.places.items) c.args.key.now.words
          (row_differs_from n.width n.height objects words others row plane)
          (row_differs_from n.width n.height objects words others row (plane + 1))
          (in_row n.width n.height plane row columns) now.numbers.items (length now.places.items)
          c.loop-plane.key.words then.numbers.items (length then.places.items) c.turn_columns.new.key.words was.so_far
          c.turn_columns.ensures.kept (subst H was.height (subst W was.width c.in_ok-turn_columns.ensures.turned))
          (planes_more n.width n.height (some_cell n.width n.height n.some_column n.some_row) n.some_row n.narrow n.short
          objects row words others plane columns low (λ x across.
          ap (λ (set : List Bool). column_at set x) made
          ∙ differing_at one two b.all_columns n.width x (b.all ∙ ap columns_below c.requires.width) across n.narrow));
      long = c.turn_columns.ensures.long ∙ was.long;
      width = c.turn_columns.ensures.width ∙ was.width;
      height = c.turn_columns.ensures.height ∙ was.height;
    }

pub returns-clause-turned : goal.returns-clause-turned
returns-clause-turned g c =
    let n = c.args.noted.now in
    let b = c.args.from.now in
    let now = c.loop-plane.noted in
    let words = b.planes.words.items in
    let others = c.args.to.now.planes.words.items in
    let objects : ℕ = length b.members.table.items in
    let past : objects ≤ c.loop-plane.plane = omega (arith, c.loop-plane-test.false, c.objects-plane-end.ensures) in
    so_far-all (row_differs n.width n.height objects words others c.args.row) n.numbers.items (length n.places.items)
    c.args.key.now.words (row_differs_from n.width n.height objects words others c.args.row c.loop-plane.plane)
    now.numbers.items (length now.places.items) c.loop-plane.key.words c.loop-plane.invariant.so_far
    (planes_none n.width n.height (some_cell n.width n.height n.some_column n.some_row) n.some_row n.narrow n.short
    objects c.args.row words others c.loop-plane.plane past)

pub returns-clause-kept : goal.returns-clause-kept
returns-clause-kept g c = c.loop-plane.invariant.so_far.kept

pub returns-in_err-turn_columns-clause-kept : goal.returns-in_err-turn_columns-clause-kept
returns-in_err-turn_columns-clause-kept g c =
    let n = c.args.noted.now in
    let b = c.args.from.now in
    let now = c.loop-plane.noted in
    let then = c.turn_columns.new.noted in
    kept-more (row_differs n.width n.height (length b.members.table.items) b.planes.words.items
    c.args.to.now.planes.words.items c.args.row) n.numbers.items (length n.places.items) c.args.key.now.words
    now.numbers.items (length now.places.items) then.numbers.items (length then.places.items)
    c.loop-plane.invariant.so_far.kept c.turn_columns.ensures.kept
