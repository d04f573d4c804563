use Rattle.std.proofs.Common.{◌≡◌, ◌∙◌, ℕ, ◌+◌, ◌<◌, Option, Some, List, false, true, get_or, length, refl, sym, ap}
use Rattle.std.proofs.Common.{arith}
use Rattle.std.specs.Prelude.{slice_get, slice_set}
use Rattle.std.proofs.lemmas.Option.{slice_get-get_or, slice_get_read, none-some}
use Rattle.std.proofs.lemmas.List.{length-set}
use Rattle.ps_model.specs.board.Grid.{Grid}
use Rattle.ps_model.specs.board.Attempts.{all_fit}
use Rattle.ps_program.specs.declared.rows.CompiledRow.{CompiledRow}
use Rattle.ps_places.specs.Scratch.{Scratch}
use Rattle.ps_places.specs.Ways.{from_first}
use Rattle.ps_engine.specs.Choosing.{HaveStartsOf, rows_meaning}
use Rattle.ps_engine.proofs.Choosing.{no_row_left, none_found, spent_next}
use Rattle.ps_engine.proofs.ScratchChanged.{all_starts, lacks_before, left_as_they_are, left_more, lines_still}
use Rattle.ps_engine.proofs.ScratchChanged.{next_found, next_placed, starts_as_they_are, starts_more}
use Rattle.ps_engine.proofs.Within.{room_there}
use Rattle.ps_engine.proofs.walking.advance.Goals as goal

pub loop-number-init : goal.loop-number-init
loop-number-init g c = record {
  passed = refl;
  same = starts_as_they_are c.args.scratch.now;
  left =
      left_as_they_are c.args.scratch.now c.args.first;
}

pub next_place-requires-clause-lines : goal.next_place-requires-clause-lines
next_place-requires-clause-lines g c =
    let n : ℕ = c.loop-number.number in
    let inside : n < length c.loop-number.scratch =
    omega (arith, c.loop-number-test.true, c.requires.long, c.loop-number.invariant.same.long) in
    lines_still (g.B.Board.grid c.args.board.now) (g.B.Board.table c.args.board.now) c.args.rows.now c.args.scratch.now
    c.loop-number.scratch c.loop-number.invariant.same c.requires.lines n _ _ (omega arith)
    (slice_get_read c.args.rows.now _ n c.index-rows-number.result refl c.loop-number-test.true c.index-rows-number.is)
    (slice_get-get_or c.loop-number.scratch n c.index-scratch-number.result inside)

pub next_place-requires-clause-line : goal.next_place-requires-clause-line
next_place-requires-clause-line g c =
    let n : ℕ = c.loop-number.number in
    let inside : n < length c.loop-number.scratch =
    omega (arith, c.loop-number-test.true, c.requires.long, c.loop-number.invariant.same.long) in
    (c.requires.places n c.index-rows-number.result (get_or c.loop-number.scratch n c.index-scratch-number.result)
    (omega arith)
    (slice_get_read c.args.rows.now _ n c.index-rows-number.result refl c.loop-number-test.true c.index-rows-number.is)
    (sym (c.loop-number.invariant.left n (omega arith))
    ∙ slice_get-get_or c.loop-number.scratch n c.index-scratch-number.result inside)).on_line

pub start_again-requires-clause-lines : goal.start_again-requires-clause-lines
start_again-requires-clause-lines g c =
    let n : ℕ = c.loop-number.number in
    let inside : n < length c.loop-number.scratch =
    omega (arith, c.loop-number-test.true, c.requires.long, c.loop-number.invariant.same.long) in
    let before : Scratch = get_or c.loop-number.scratch n c.index-scratch-number.result in
    let mid : List Scratch = slice_set c.loop-number.scratch n c.next_place.new.self in
    let same : HaveStartsOf c.args.scratch.now mid =
    starts_more c.args.scratch.now c.loop-number.scratch n before c.next_place.new.self c.loop-number.invariant.same
    (slice_get-get_or c.loop-number.scratch n c.index-scratch-number.result inside) c.next_place.ensures.same in
    lines_still (g.B.Board.grid c.args.board.now) (g.B.Board.table c.args.board.now) c.args.rows.now c.args.scratch.now
    mid same c.requires.lines

pub returns-then-start_again-clause-found : goal.returns-then-start_again-clause-found
returns-then-start_again-clause-found g c =
    let e : c.start_again.result ≡ true = c.if-start_again.true in
    let n : ℕ = c.loop-number.number in
    let inside : n < length c.loop-number.scratch =
    omega (arith, c.loop-number-test.true, c.requires.long, c.loop-number.invariant.same.long) in
    let row : CompiledRow = c.index-rows-number.result in
    let before : Scratch = get_or c.loop-number.scratch n c.index-scratch-number.result in
    let yes : c.next_place.result ≡ true = c.if-next_place.true in
    c.loop-number.invariant.passed
    ∙ next_found (g.B.Board.grid c.args.board.now) (g.B.Board.table c.args.board.now) c.args.rows.now c.args.scratch.now
    c.loop-number.scratch c.start_again.new.scratch n row before c.next_place.new.self
    (slice_get_read c.args.rows.now _ n row refl c.loop-number-test.true c.index-rows-number.is)
    (slice_get-get_or c.loop-number.scratch n c.index-scratch-number.result inside)
    c.loop-number.invariant.left c.loop-number.invariant.same c.next_place.ensures.same c.start_again.ensures.same
    c.start_again.ensures.left
    c.requires.long (c.next_place.ensures.found yes) (c.start_again.ensures.started e)
    (λ k r o low is there. c.requires.slower k r o (omega (arith, low, c.loop-number.auto.number)) is there)

pub returns-then-next_place-clause-none : goal.returns-then-next_place-clause-none
returns-then-next_place-clause-none g c = λ nowhere.
    let e : c.start_again.result ≡ false = c.if-start_again.false in
    let n : ℕ = c.loop-number.number in
    let inside : n < length c.loop-number.scratch =
    omega (arith, c.loop-number-test.true, c.requires.long, c.loop-number.invariant.same.long) in
    let before : Scratch = get_or c.loop-number.scratch n c.index-scratch-number.result in
    let mid : List Scratch = slice_set c.loop-number.scratch n c.next_place.new.self in
    let same : HaveStartsOf c.args.scratch.now mid =
    starts_more c.args.scratch.now c.loop-number.scratch n before c.next_place.new.self c.loop-number.invariant.same
    (slice_get-get_or c.loop-number.scratch n c.index-scratch-number.result inside) c.next_place.ensures.same in
    c.loop-number.invariant.passed
    ∙ none_found (g.B.Board.grid c.args.board.now) (g.B.Board.table c.args.board.now) n c.args.rows.now c.args.scratch.now
    (lacks_before (g.B.Board.grid c.args.board.now) (g.B.Board.table c.args.board.now) c.args.rows.now c.args.scratch.now
    mid n same (c.start_again.ensures.none e))

pub returns-then-start_again-clause-places : goal.returns-then-start_again-clause-places
returns-then-start_again-clause-places g c =
    let e : c.start_again.result ≡ true = c.if-start_again.true in
    let n : ℕ = c.loop-number.number in
    let inside : n < length c.loop-number.scratch =
    omega (arith, c.loop-number-test.true, c.requires.long, c.loop-number.invariant.same.long) in
    let row : CompiledRow = c.index-rows-number.result in
    let before : Scratch = get_or c.loop-number.scratch n c.index-scratch-number.result in
    let yes : c.next_place.result ≡ true = c.if-next_place.true in
    let row_is : slice_get c.args.rows.now n ≡ Some row =
    slice_get_read c.args.rows.now _ n row refl c.loop-number-test.true c.index-rows-number.is in
    let there : slice_get c.loop-number.scratch n ≡ Some before =
    slice_get-get_or c.loop-number.scratch n c.index-scratch-number.result inside in
    let was = c.requires.places n row before (omega arith) row_is
    (sym (c.loop-number.invariant.left n (omega arith)) ∙ there) in
    next_placed (g.B.Board.grid c.args.board.now) (g.B.Board.table c.args.board.now) c.args.rows.now c.args.scratch.now
    c.loop-number.scratch c.start_again.new.scratch n row before c.next_place.new.self
    row_is there
    c.loop-number.invariant.left c.loop-number.invariant.same c.next_place.ensures.same c.start_again.ensures.same
    c.start_again.ensures.left
    c.requires.places
    (record { on_line = c.next_place.ensures.line yes; spaced = c.next_place.ensures.spaced yes was.spaced })
    (c.start_again.ensures.started e)

pub returns-then-next_place-clause-same : goal.returns-then-next_place-clause-same
returns-then-next_place-clause-same g c =
    let n : ℕ = c.loop-number.number in
    let inside : n < length c.loop-number.scratch =
    omega (arith, c.loop-number-test.true, c.requires.long, c.loop-number.invariant.same.long) in
    let row : CompiledRow = c.index-rows-number.result in
    let before : Scratch = get_or c.loop-number.scratch n c.index-scratch-number.result in
    all_starts (g.B.Board.grid c.args.board.now) (g.B.Board.table c.args.board.now) c.args.rows.now c.args.scratch.now
    c.loop-number.scratch c.start_again.new.scratch n row before c.next_place.new.self
    (slice_get_read c.args.rows.now _ n row refl c.loop-number-test.true c.index-rows-number.is)
    (slice_get-get_or c.loop-number.scratch n c.index-scratch-number.result inside)
    c.loop-number.invariant.left c.loop-number.invariant.same c.next_place.ensures.same c.start_again.ensures.same
    c.start_again.ensures.left

pub returns-then-start_again-clause-same : goal.returns-then-start_again-clause-same
returns-then-start_again-clause-same g c =
    let n : ℕ = c.loop-number.number in
    let inside : n < length c.loop-number.scratch =
    omega (arith, c.loop-number-test.true, c.requires.long, c.loop-number.invariant.same.long) in
    let row : CompiledRow = c.index-rows-number.result in
    let before : Scratch = get_or c.loop-number.scratch n c.index-scratch-number.result in
    all_starts (g.B.Board.grid c.args.board.now) (g.B.Board.table c.args.board.now) c.args.rows.now c.args.scratch.now
    c.loop-number.scratch c.start_again.new.scratch n row before c.next_place.new.self
    (slice_get_read c.args.rows.now _ n row refl c.loop-number-test.true c.index-rows-number.is)
    (slice_get-get_or c.loop-number.scratch n c.index-scratch-number.result inside)
    c.loop-number.invariant.left c.loop-number.invariant.same c.next_place.ensures.same c.start_again.ensures.same
    c.start_again.ensures.left

pub returns-then-start_again-clause-started : goal.returns-then-start_again-clause-started
returns-then-start_again-clause-started g c =
    let e : c.start_again.result ≡ true = c.if-start_again.true in
    c.start_again.ensures.started e

pub loop-number-preserved : goal.loop-number-preserved
loop-number-preserved g c =
    let n : ℕ = c.loop-number.number in
    let inside : n < length c.loop-number.scratch =
    omega (arith, c.loop-number-test.true, c.requires.long, c.loop-number.invariant.same.long) in
    let row : CompiledRow = c.index-rows-number.result in
    let before : Scratch = get_or c.loop-number.scratch n c.index-scratch-number.result in
    let there : slice_get c.loop-number.scratch n ≡ Some before =
    slice_get-get_or c.loop-number.scratch n c.index-scratch-number.result inside in
    let no : c.next_place.result ≡ false = c.if-next_place.false in
    record {
      passed =
          c.loop-number.invariant.passed
          ∙ spent_next (g.B.Board.grid c.args.board.now) (g.B.Board.table c.args.board.now) n
          (n + 1) c.args.rows.now c.args.scratch.now row before
          (slice_get_read c.args.rows.now _ n row refl c.loop-number-test.true c.index-rows-number.is)
          (sym (c.loop-number.invariant.left n (omega arith)) ∙ there) (c.next_place.ensures.none no) (omega arith);
      same = starts_more c.args.scratch.now c.loop-number.scratch n before c.next_place.new.self
          c.loop-number.invariant.same there c.next_place.ensures.same;
      left = left_more c.args.scratch.now c.loop-number.scratch n before c.next_place.new.self (n + 1)
          (omega arith) c.loop-number.invariant.left;
    }

pub returns-clause-none : goal.returns-clause-none
returns-clause-none g c = λ e.
    let grid : Grid = g.B.Board.grid c.args.board.now in
    let table : Option (List ℕ) = g.B.Board.table c.args.board.now in
    c.loop-number.invariant.passed
    ∙ ap (from_first (all_fit grid (rows_meaning table c.args.rows.now)))
    (no_row_left grid table c.loop-number.number c.args.rows.now c.args.scratch.now
    (omega (arith, c.loop-number-test.false)))

pub start_again-requires-clause-long : goal.start_again-requires-clause-long
start_again-requires-clause-long g c =
    omega (
      arith,
      c.requires.long,
      c.loop-number.auto.scratch,
      length-set c.loop-number.scratch c.loop-number.number c.next_place.new.self,
    )

pub start_again-requires-clause-count : goal.start_again-requires-clause-count
start_again-requires-clause-count g c = omega (arith, c.loop-number-test.true)

pub returns-then-start_again-clause-none : goal.returns-then-start_again-clause-none
returns-then-start_again-clause-none g c = λ e. absurd (none-some c.loop-number.number (sym e))

pub returns-then-start_again-clause-count : goal.returns-then-start_again-clause-count
returns-then-start_again-clause-count g c = omega (arith, c.loop-number-test.true)

pub returns-then-next_place-clause-found : goal.returns-then-next_place-clause-found
returns-then-next_place-clause-found g c = tt

pub returns-clause-found : goal.returns-clause-found
returns-clause-found g c = tt

pub returns-then-next_place-clause-places : goal.returns-then-next_place-clause-places
returns-then-next_place-clause-places g c = tt

pub returns-clause-places : goal.returns-clause-places
returns-clause-places g c = tt

pub returns-then-next_place-clause-count : goal.returns-then-next_place-clause-count
returns-then-next_place-clause-count g c = tt

pub returns-clause-count : goal.returns-clause-count
returns-clause-count g c = tt

pub returns-then-next_place-clause-started : goal.returns-then-next_place-clause-started
returns-then-next_place-clause-started g c = tt

pub returns-clause-started : goal.returns-clause-started
returns-clause-started g c = tt

pub returns-clause-same : goal.returns-clause-same
returns-clause-same g c = c.loop-number.invariant.same

pub bounds-rows-number : goal.bounds-rows-number
bounds-rows-number g c = c.loop-number-test.true

pub bounds-scratch-number : goal.bounds-scratch-number
bounds-scratch-number g c =
    room_there c.loop-number.number (length c.args.rows.now) (length c.args.scratch.now)
    (length c.loop-number.scratch) c.loop-number-test.true
    c.requires.long c.loop-number.auto.scratch
