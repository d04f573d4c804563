use Rattle.std.proofs.Common.{◌≡◌, ◌∙◌, ℕ, ◌+◌, ◌<◌, Some, false, true, get_or, length, refl, sym, arith, true≢false}
use Rattle.std.specs.Prelude.{slice_get}
use Rattle.std.proofs.lemmas.Option.{slice_get-get_or, slice_get_read}
use Rattle.ps_places.specs.Scratch.{Scratch}
use Rattle.ps_engine.proofs.ScratchChanged.{left_as_they_are, left_more, lines_still, started_more, starts_as_they_are}
use Rattle.ps_engine.proofs.ScratchChanged.{starts_more}
use Rattle.ps_engine.proofs.Within.{room_there}
use Rattle.ps_laws.proofs.common.Orders.{less_up}
use Rattle.ps_engine.proofs.walking.start_again.Goals as goal

pub loop-number-init : goal.loop-number-init
loop-number-init g c = record {
  started = λ k row row_scratch low is there. absurd (omega (arith, low));
  same = starts_as_they_are c.args.scratch.now;
  left = left_as_they_are c.args.scratch.now 0;
}

pub first_place-requires : goal.first_place-requires
first_place-requires g c =
    let n : ℕ = c.loop-number.number in
    let low : n < length c.args.rows.now = omega (arith, c.loop-number-test.true, c.requires.count) in
    let inside : n < length c.loop-number.scratch =
    omega (arith, low, c.requires.long, c.loop-number.invariant.same.long) in
    lines_still (g.B.Board.grid c.args.board.now) (g.B.Board.table c.args.board.now) c.args.rows.now c.args.scratch.now
    c.loop-number.scratch c.loop-number.invariant.same c.requires.lines n _ _ (omega arith)
    (slice_get_read c.args.rows.now _ n c.index-rows-number.result refl low c.index-rows-number.is)
    (slice_get-get_or c.loop-number.scratch n c.index-scratch-number.result inside)

pub returns-then-not-first_place-clause-none : goal.returns-then-not-first_place-clause-none
returns-then-not-first_place-clause-none g c = λ e.
    let n : ℕ = c.loop-number.number in
    let before : Scratch = get_or c.loop-number.scratch n c.index-scratch-number.result in
    let low : n < length c.args.rows.now = omega (arith, c.loop-number-test.true, c.requires.count) in
    let inside : n < length c.loop-number.scratch =
    omega (arith, low, c.requires.long, c.loop-number.invariant.same.long) in
    let no : c.first_place.result ≡ false = c.if-not-first_place.true in
    record {
      number = n;
      low = c.loop-number-test.true;
      row = c.index-rows-number.result;
      row_scratch = before;
      row_is = slice_get_read c.args.rows.now _ n c.index-rows-number.result refl low c.index-rows-number.is;
      room_is = sym (c.loop-number.invariant.left n (omega arith))
          ∙ slice_get-get_or c.loop-number.scratch n c.index-scratch-number.result inside;
      none = c.first_place.ensures.none no;
    }

pub returns-then-not-first_place-clause-same : goal.returns-then-not-first_place-clause-same
returns-then-not-first_place-clause-same g c =
    let n : ℕ = c.loop-number.number in
    let low : n < length c.args.rows.now = omega (arith, c.loop-number-test.true, c.requires.count) in
    let inside : n < length c.loop-number.scratch =
    omega (arith, low, c.requires.long, c.loop-number.invariant.same.long) in
    starts_more c.args.scratch.now c.loop-number.scratch n _ c.first_place.new.self c.loop-number.invariant.same
    (slice_get-get_or c.loop-number.scratch n c.index-scratch-number.result inside) c.first_place.ensures.same

pub returns-then-not-first_place-clause-left : goal.returns-then-not-first_place-clause-left
returns-then-not-first_place-clause-left g c = λ k high.
    let n : ℕ = c.loop-number.number in
    left_more c.args.scratch.now c.loop-number.scratch n c.first_place.new.self c.first_place.new.self (n + 1)
    (omega arith) c.loop-number.invariant.left k (omega (arith, high, c.loop-number-test.true))

pub loop-number-preserved : goal.loop-number-preserved
loop-number-preserved g c =
    let n : ℕ = c.loop-number.number in
    let low : n < length c.args.rows.now = omega (arith, c.loop-number-test.true, c.requires.count) in
    let inside : n < length c.loop-number.scratch =
    omega (arith, low, c.requires.long, c.loop-number.invariant.same.long) in
    let row_is : slice_get c.args.rows.now n ≡ Some c.index-rows-number.result =
    slice_get_read c.args.rows.now _ n c.index-rows-number.result refl low c.index-rows-number.is in
    let before : Scratch = get_or c.loop-number.scratch n c.index-scratch-number.result in
    let room_is : slice_get c.loop-number.scratch n ≡ Some before =
    slice_get-get_or c.loop-number.scratch n c.index-scratch-number.result inside in
    let yes : c.first_place.result ≡ true = c.if-not-first_place.false in
    record {
      started =
          started_more (g.B.Board.grid c.args.board.now) (g.B.Board.table c.args.board.now) c.args.rows.now
          c.loop-number.scratch n (n + 1) c.index-rows-number.result before c.first_place.new.self
          (omega arith) row_is room_is c.first_place.ensures.same
          (record {
            found = c.first_place.ensures.found yes;
            place =
                record { on_line = c.first_place.ensures.line yes; spaced = c.first_place.ensures.spaced yes };
            among =
                c.first_place.ensures.among yes;
          }) c.loop-number.invariant.started;
      same = starts_more c.args.scratch.now c.loop-number.scratch n before c.first_place.new.self
          c.loop-number.invariant.same room_is c.first_place.ensures.same;
      left = left_more c.args.scratch.now c.loop-number.scratch n before c.first_place.new.self (n + 1)
          (omega arith) c.loop-number.invariant.left;
    }

pub returns-clause-started : goal.returns-clause-started
returns-clause-started g c = λ e k row row_scratch low is there.
    c.loop-number.invariant.started k row row_scratch (omega (arith, low, c.loop-number-test.false)) is there

pub returns-then-not-first_place-clause-started : goal.returns-then-not-first_place-clause-started
returns-then-not-first_place-clause-started g c = λ e. absurd (true≢false (sym e))

pub returns-clause-none : goal.returns-clause-none
returns-clause-none g c = λ e. absurd (true≢false e)

pub returns-clause-same : goal.returns-clause-same
returns-clause-same g c = c.loop-number.invariant.same

pub returns-clause-left : goal.returns-clause-left
returns-clause-left g c = λ k high.
    c.loop-number.invariant.left k (omega (arith, high, c.loop-number.auto.number-end))

pub bounds-rows-number : goal.bounds-rows-number
bounds-rows-number g c =
    less_up c.loop-number.number c.args.count (length c.args.rows.now) c.loop-number-test.true c.requires.count

pub bounds-scratch-number : goal.bounds-scratch-number
bounds-scratch-number g c =
    room_there c.loop-number.number (length c.args.rows.now) (length c.args.scratch.now)
    (length c.loop-number.scratch)
    (less_up c.loop-number.number c.args.count (length c.args.rows.now) c.loop-number-test.true c.requires.count)
    c.requires.long c.loop-number.auto.scratch
