use Rattle.std.proofs.Common.{rules, ◌∙◌, ◌<◌, ◌*◌, ◌+◌, ℕ, Bool, length, refl, subst}
use Rattle.std.specs.Prelude.{nat_eq}
use Rattle.ps_board.proofs.ColumnLaws.{first_in}
use Rattle.ps_board.proofs.Taken.{was_in}
use Rattle.ps_board.specs.ColumnSets.{set_columns}
use Rattle.ps_rows.specs.PackedKeys.{AreTurned}
use Rattle.ps_rows.specs.TurnedPlaces.{in_row}
use Rattle.ps_rows.proofs.TurnedKeys.{so_far-all, so_far-init, so_far-more}
use Rattle.ps_rows.proofs.TurnedPlaces.{place_low, row_more, row_none, some_cell}
use Rattle.ps_rows.proofs.turning.turn_columns.Goals as goal

pub turn-requires : goal.turn-requires
turn-requires g c = (
  search rules,
  (
    (let n = c.args.noted.now in
        let was = c.loop-column.invariant in
        let x : ℕ = c.in-Some.column in
        let first = first_in c.loop-column.left x (set_columns c.take_first.new.self) c.in-Some.ensures.some in
        let low : x < n.width = was.wanted x first.1 first.0 in
        let here = place_low n.width n.height c.args.plane c.args.row x (length n.numbers.items) c.requires.row low
        c.requires.plane in
        rw (was.height, was.long) here),
    (c.loop-column.invariant.so_far.within),
  ),
)

pub loop-column-init : goal.loop-column-init
loop-column-init g c =
    let n = c.args.noted.now in
    let which : ℕ → Bool = in_row n.width n.height c.args.plane c.args.row c.args.columns in
    record {
      so_far = so_far-init which n.numbers.items (length n.places.items) c.args.key.now.words which (λ place. refl)
          c.requires.within;
      wanted = c.requires.columns;
      long = refl;
      width = refl;
      height = refl;
    }

pub loop-column-preserved : goal.loop-column-preserved
loop-column-preserved g c =
    let n = c.args.noted.now in
    let was = c.loop-column.invariant in
    let now = c.loop-column.noted in
    let then = c.turn.new.self in
    let plane : ℕ = c.args.plane in
    let row : ℕ = c.args.row in
    let x : ℕ = c.in-Some.column in
    let set = c.loop-column.left in
    let left = c.take_first.new.self in
    let first = first_in set x (set_columns left) c.in-Some.ensures.some in
    let low : x < n.width = was.wanted x first.1 first.0 in
    let cells : ℕ = n.width * n.height in
    let P : ℕ → Type 0 = λ height. AreTurned (λ q. nat_eq q (plane * cells + (x * height + row))) now.numbers.items
    c.loop-column.key.words (length then.places.items) then.numbers.items c.turn.new.key.words in
    record {
      so_far = so_far-more (in_row n.width n.height plane row c.args.columns) n.numbers.items (length n.places.items)
          c.args.key.now.words (in_row n.width n.height plane row set) (in_row n.width n.height plane row left)
          (λ q. nat_eq q (plane * cells + (x * n.height + row))) now.numbers.items (length now.places.items)
          c.loop-column.key.words then.numbers.items (length then.places.items) c.turn.new.key.words was.so_far
          c.turn.ensures.kept (subst P was.height c.in_ok-turn.ensures.turned)
          (row_more n.width n.height (some_cell n.width n.height n.some_column n.some_row) n.some_row n.narrow n.short
          plane row c.requires.row set left x c.in-Some.ensures.some low);
      wanted = λ y few on. was.wanted y few (was_in set left x y c.in-Some.ensures.some few on);
      long = c.turn.ensures.long ∙ was.long;
      width = c.turn.ensures.width ∙ was.width;
      height = c.turn.ensures.height ∙ was.height;
    }

pub returns-clause-turned : goal.returns-clause-turned
returns-clause-turned g c =
    let n = c.args.noted.now in
    let now = c.loop-column.noted in
    let plane : ℕ = c.args.plane in
    let row : ℕ = c.args.row in
    so_far-all (in_row n.width n.height plane row c.args.columns) n.numbers.items (length n.places.items)
    c.args.key.now.words (in_row n.width n.height plane row c.loop-column.left) now.numbers.items
    (length now.places.items) c.loop-column.key.words c.loop-column.invariant.so_far
    (row_none n.width n.height (some_cell n.width n.height n.some_column n.some_row) n.some_row n.narrow n.short
    plane row c.requires.row c.loop-column.left (c.in_default.ensures.none refl))

pub returns-clause-kept : goal.returns-clause-kept
returns-clause-kept g c = c.loop-column.invariant.so_far.kept
