use Rattle.std.proofs.Common.{rules, ◌≡◌, ◌∙◌, ◌<◌, ◌*◌, ◌+◌, ◌/◌, ◌&&◌, ℕ, Bool, length, refl, subst, arith}
use Rattle.std.specs.Prelude.{nat_eq, slice_index_or}
use Rattle.std.proofs.lemmas.List.{get_or_read}
use Rattle.ps_board.specs.ColumnSets.{set_columns}
use Rattle.ps_board.proofs.ColumnLaws.{first_in}
use Rattle.ps_board.proofs.Taken.{was_in}
use Rattle.ps_rows.specs.PackedKeys.{Turned}
use Rattle.ps_rows.specs.TurnedPlaces.{has_layer, has_place, in_word, is_turned}
use Rattle.ps_rows.proofs.TurnedKeys.{turned-all, turned-init, turned-more}
use Rattle.ps_rows.proofs.TurnedPlaces.{bits_more, bits_none}
use Rattle.ps_rows.proofs.turning.turn_word.Goals as goal

pub loop-bit-init : goal.loop-bit-init
loop-bit-init g c =
    let n = c.args.noted.now in
    let m = c.args.members.now in
    let p = c.args.planes.now in
    let which : ℕ → Bool = is_turned m.table.items m.ranges.len (n.width * n.height)
    (in_word n.numbers.items c.args.index c.args.bits) in
    record {
      turned = turned-init which (has_place n.width n.height p.words.items) which (λ place. refl);
      known = c.requires.bits;
      behind = λ q far. refl;
      height = refl;
      count = refl;
    }

pub overflow_mul-index : goal.overflow_mul-index
overflow_mul-index g c =
    let n = c.args.noted.now in
    let set = c.loop-bit.left in
    let bit : ℕ = c.in-Some.bit in
    let first = first_in set bit (set_columns c.take_first.new.self) c.in-Some.ensures.some in
    let known : c.args.index * 64 + bit < length n.places.items =
    c.loop-bit.invariant.known bit c.in-Some.ensures.room first.0 in
    search rules

pub overflow_add-index : goal.overflow_add-index
overflow_add-index g c =
    let n = c.args.noted.now in
    let set = c.loop-bit.left in
    let bit : ℕ = c.in-Some.bit in
    let first = first_in set bit (set_columns c.take_first.new.self) c.in-Some.ensures.some in
    let known : c.args.index * 64 + bit < length n.places.items =
    c.loop-bit.invariant.known bit c.in-Some.ensures.room first.0 in
    search rules

pub index-place-requires : goal.index-place-requires
index-place-requires g c =
    let n = c.args.noted.now in
    let set = c.loop-bit.left in
    let bit : ℕ = c.in-Some.bit in
    let first = first_in set bit (set_columns c.take_first.new.self) c.in-Some.ensures.some in
    let known : c.args.index * 64 + bit < length n.places.items =
    c.loop-bit.invariant.known bit c.in-Some.ensures.room first.0 in
    search rules

pub turn_place-requires : goal.turn_place-requires
turn_place-requires g c =
    let n = c.args.noted.now in
    let was = c.loop-bit.invariant in
    record {
      some = n.some_column;
      short = n.narrow;
      narrow = c.requires.narrow;
      planes = rw (was.height, was.count) c.requires.planes;
    }

pub loop-bit-preserved : goal.loop-bit-preserved
loop-bit-preserved g c =
    let n = c.args.noted.now in
    let m = c.args.members.now in
    let p = c.args.planes.now in
    let was = c.loop-bit.invariant in
    let index : ℕ = c.args.index in
    let bit : ℕ = c.in-Some.bit in
    let set = c.loop-bit.left in
    let left = c.take_first.new.self in
    let first = first_in set bit (set_columns left) c.in-Some.ensures.some in
    let small : bit < 64 = c.in-Some.ensures.room in
    let known : index * 64 + bit < length n.places.items = was.known bit small first.0 in
    let own : ℕ = slice_index_or n.places.items (index * 64 + bit) 0 in
    let cells : ℕ = n.width * n.height in
    let now = c.loop-bit.planes in
    let then = c.turn_place.new.planes in
    let high : now.height ≡ n.height = was.height ∙ c.requires.height in
    let read : c.index-place.result.now ≡ own =
    get_or_read n.places.items (index * 64 + bit) c.index-place.result.now known c.index-place.ensures 0 in
    let R : ℕ → Type 0 = λ spot. Turned (λ q. has_layer m.table.items m.ranges.len (q / (n.width * now.height))
    && nat_eq q spot) (has_place n.width now.height now.words.items) (has_place n.width now.height then.words.items) in
    let H : ℕ → Type 0 = λ h. Turned (λ q. has_layer m.table.items m.ranges.len (q / (n.width * h))
    && nat_eq q own) (has_place n.width h now.words.items) (has_place n.width h then.words.items) in
    record {
      turned = turned-more
          (is_turned m.table.items m.ranges.len cells (in_word n.numbers.items index c.args.bits))
          (has_place n.width n.height p.words.items)
          (is_turned m.table.items m.ranges.len cells (in_word n.numbers.items index set))
          (is_turned m.table.items m.ranges.len cells (in_word n.numbers.items index left))
          (λ q. has_layer m.table.items m.ranges.len (q / cells) && nat_eq q own)
          (has_place n.width n.height now.words.items) (has_place n.width n.height then.words.items) was.turned
          (subst H high (subst R read c.turn_place.ensures.turned))
          (bits_more m.table.items m.ranges.len cells n.numbers.items n.places.items n.noted set left index bit
          c.in-Some.ensures.some small known);
      known = λ x few on. was.known x few (was_in set left bit x c.in-Some.ensures.some (omega (arith, few)) on);
      behind = λ q far.
          c.turn_place.ensures.behind q (let near = far in rw was.height near) ∙ was.behind q far;
      height = c.turn_place.ensures.height ∙ was.height;
      count = c.turn_place.ensures.count ∙ was.count;
    }

pub returns-clause-turned : goal.returns-clause-turned
returns-clause-turned g c =
    let n = c.args.noted.now in
    let m = c.args.members.now in
    let p = c.args.planes.now in
    let cells : ℕ = n.width * n.height in
    turned-all (is_turned m.table.items m.ranges.len cells (in_word n.numbers.items c.args.index c.args.bits))
    (has_place n.width n.height p.words.items)
    (is_turned m.table.items m.ranges.len cells (in_word n.numbers.items c.args.index c.loop-bit.left))
    (has_place n.width n.height c.loop-bit.planes.words.items) c.loop-bit.invariant.turned
    (bits_none m.table.items m.ranges.len cells n.numbers.items n.places.items n.noted c.loop-bit.left c.args.index
    (c.in_default.ensures.none refl))

pub returns-clause-behind : goal.returns-clause-behind
returns-clause-behind g c = c.loop-bit.invariant.behind
