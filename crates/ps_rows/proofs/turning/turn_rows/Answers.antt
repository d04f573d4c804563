use Rattle.std.proofs.Common.{rules, ◌≡◌, ◌∙◌, ◌<◌, ◌&&◌, ℕ, Bool, length, refl, ap, subst}
use Rattle.std.proofs.Common.{arith}
use Rattle.std.proofs.Math.Bool.{and-true}
use Rattle.std.proofs.lemmas.Bool.{lt-ltb}
use Rattle.ps_board.specs.ColumnSets.{column_at, columns_below}
use Rattle.ps_board.proofs.Taken.{below-init, below-more, in_both, taken_below}
use Rattle.ps_rows.specs.PackedKeys.{AreTurned}
use Rattle.ps_rows.specs.TurnedPlaces.{row_differs, rows_differ}
use Rattle.ps_rows.proofs.TurnedKeys.{so_far-all, so_far-init, so_far-more}
use Rattle.ps_rows.proofs.TurnedPlaces.{rows_more, rows_none, rows_within, some_cell}
use Rattle.ps_rows.proofs.turning.turn_rows.Goals as goal

pub turn_row-requires : goal.turn_row-requires
turn_row-requires g c = (
  search rules,
  (
    (let n = c.args.noted.now in
        let was = c.loop-row.invariant in
        let low : c.in-Some.row < n.height = taken_below c.loop-row.left c.take_first.new.self n.height c.in-Some.row
        c.in-Some.ensures.some was.below in
        rw was.height low),
    (
      (rw c.loop-row.invariant.width c.requires.width),
      (
        (rw c.loop-row.invariant.height c.requires.height),
        (
          (c.requires.like_height),
          (
            (c.requires.like_layers),
            (
              (c.requires.like_table),
              (
                (let was = c.loop-row.invariant in
                    rw (was.width, was.height, was.long) c.requires.long),
                (c.loop-row.invariant.so_far.within),
              ),
            ),
          ),
        ),
      ),
    ),
  ),
)

pub loop-row-init : goal.loop-row-init
loop-row-init g c =
    let n = c.args.noted.now in
    let b = c.args.from.now in
    let words = b.planes.words.items in
    let others = c.args.to.now.planes.words.items in
    let objects : ℕ = length b.members.table.items in
    let all : c.below.result ≡ columns_below n.height = c.below.ensures ∙ ap columns_below c.requires.height in
    record {
      so_far = so_far-init (rows_differ n.width n.height objects words others c.args.rows) n.numbers.items
          (length n.places.items) c.args.key.now.words
          (rows_differ n.width n.height objects words others c.both-left.result)
          (rows_within n.width n.height (some_cell n.width n.height n.some_column n.some_row) n.some_row n.narrow n.short
          objects words others c.args.rows c.both-left.result (λ r under.
          in_both c.args.rows c.below.result c.both-left.result n.height r all c.both-left.ensures
          (omega (arith, under, n.short))
          ∙ ap (λ (t : Bool). column_at c.args.rows r && t) (lt-ltb r n.height under)
          ∙ and-true (column_at c.args.rows r)))
          c.requires.within;
      below = below-init c.args.rows c.below.result c.both-left.result n.height all c.both-left.ensures;
      long = refl;
      width = refl;
      height = refl;
    }

pub loop-row-preserved : goal.loop-row-preserved
loop-row-preserved g c =
    let n = c.args.noted.now in
    let b = c.args.from.now in
    let was = c.loop-row.invariant in
    let now = c.loop-row.noted in
    let then = c.turn_row.new.noted in
    let words = b.planes.words.items in
    let others = c.args.to.now.planes.words.items in
    let objects : ℕ = length b.members.table.items in
    let row : ℕ = c.in-Some.row in
    let set = c.loop-row.left in
    let left = c.take_first.new.self in
    let W : ℕ → Type 0 = λ width. AreTurned (row_differs width now.height objects words others row) now.numbers.items
    c.loop-row.key.words (length then.places.items) then.numbers.items c.turn_row.new.key.words in
    let H : ℕ → Type 0 = λ height. AreTurned (row_differs n.width height objects words others row) now.numbers.items
    c.loop-row.key.words (length then.places.items) then.numbers.items c.turn_row.new.key.words in
    record {
      so_far = so_far-more (rows_differ n.width n.height objects words others c.args.rows) n.numbers.items
          (length n.places.items) c.args.key.now.words (rows_differ n.width n.height objects words others set)
          (rows_differ n.width n.height objects words others left) (row_differs n.width n.height objects words others row)
          now.numbers.items (length now.places.items) c.loop-row.key.words then.numbers.items
          (length then.places.items) c.turn_row.new.key.words was.so_far c.turn_row.ensures.kept
          (subst H was.height (subst W was.width c.in_ok-turn_row.ensures.turned))
          (rows_more n.width n.height (some_cell n.width n.height n.some_column n.some_row) n.some_row n.narrow n.short
          objects words others set left row c.in-Some.ensures.some);
      below = below-more set left n.height row c.in-Some.ensures.some was.below;
      long = c.turn_row.ensures.long ∙ was.long;
      width = c.turn_row.ensures.width ∙ was.width;
      height = c.turn_row.ensures.height ∙ was.height;
    }

pub returns-clause-turned : goal.returns-clause-turned
returns-clause-turned g c =
    let n = c.args.noted.now in
    let b = c.args.from.now in
    let now = c.loop-row.noted in
    let words = b.planes.words.items in
    let others = c.args.to.now.planes.words.items in
    let objects : ℕ = length b.members.table.items in
    so_far-all (rows_differ n.width n.height objects words others c.args.rows) n.numbers.items
    (length n.places.items) c.args.key.now.words (rows_differ n.width n.height objects words others c.loop-row.left)
    now.numbers.items (length now.places.items) c.loop-row.key.words c.loop-row.invariant.so_far
    (rows_none n.width n.height (some_cell n.width n.height n.some_column n.some_row) n.some_row n.narrow n.short
    objects words others c.loop-row.left (c.in_default.ensures.none refl))

pub returns-clause-kept : goal.returns-clause-kept
returns-clause-kept g c = c.loop-row.invariant.so_far.kept
