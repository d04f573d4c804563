use Rattle.std.proofs.Common.{◌≡◌, ◌∙◌, ℕ, ◌+◌, ◌<◌, ◌≤◌, Option, List, false, true, get_or, length, refl, ap, arith}
use Rattle.std.proofs.Common.{true≢false, sym, subst}
use Rattle.std.proofs.lemmas.Option.{slice_get_read, slice_get_within}
use Rattle.std.proofs.lemmas.List.{length-set}
use Rattle.ps_model.specs.board.Grid.{Grid}
use Rattle.ps_program.specs.declared.rows.CompiledRow.{CompiledRow}
use Rattle.ps_places.specs.Scratch.{Scratch}
use Rattle.ps_engine.proofs.Combinations.{HasFirst, all_combinations, first_fits, first_more, is_first, none_first}
use Rattle.ps_engine.proofs.Within.{room_there}
use Rattle.ps_engine.proofs.attempts.choose_first.Goals as goal

pub returns-then-not-first_place-clause-none : goal.returns-then-not-first_place-clause-none
returns-then-not-first_place-clause-none g c = λ e.
    let grid : Grid = g.B.Board.grid c.args.board.now in
    let table : Option (List ℕ) = g.B.Board.table c.args.board.now in
    let n : ℕ = c.loop-number.number in
    let rule = c.args.rule.now in
    let row : CompiledRow = c.index-rows-number.result in
    let found : Scratch = c.find_starts.new.scratch in
    let no : c.first_place.result ≡ false = c.if-not-first_place.true in
    let low : n < length rule.rows = omega (arith, c.loop-number-test.true, ap length c.as_slice-rows.ensures) in
    let inside : n < length c.loop-number.scratch = omega (arith, low, c.requires, c.loop-number.auto.scratch) in
    let is : row ≡ get_or rule.rows n row =
    c.index-rows-number.is ∙ ap (λ (rs : List CompiledRow). get_or rs n row) c.as_slice-rows.ensures in
    none_first grid table row found c.find_starts.ensures.places
    rule.axis rule.rows n rule.along low is (c.first_place.ensures.none no)

pub loop-number-preserved : goal.loop-number-preserved
loop-number-preserved g c =
    let grid : Grid = g.B.Board.grid c.args.board.now in
    let table : Option (List ℕ) = g.B.Board.table c.args.board.now in
    let n : ℕ = c.loop-number.number in
    let rule = c.args.rule.now in
    let row : CompiledRow = c.index-rows-number.result in
    let found : Scratch = c.find_starts.new.scratch in
    let yes : c.first_place.result ≡ true = c.if-not-first_place.false in
    let low : n < length rule.rows = omega (arith, c.loop-number-test.true, ap length c.as_slice-rows.ensures) in
    let inside : n < length c.loop-number.scratch = omega (arith, low, c.requires, c.loop-number.auto.scratch) in
    let is : row ≡ get_or rule.rows n row =
    c.index-rows-number.is ∙ ap (λ (rs : List CompiledRow). get_or rs n row) c.as_slice-rows.ensures in
    let here : HasFirst grid table row c.first_place.new.self =
    is_first grid table row found c.find_starts.ensures.places c.first_place.new.self c.find_starts.ensures.lines
    c.first_place.ensures.same
    (record {
      found = c.first_place.ensures.found yes;
      place =
          record { on_line = c.first_place.ensures.line yes; spaced = c.first_place.ensures.spaced yes };
      among =
          c.first_place.ensures.among yes;
    }) in
    first_more grid table rule.rows c.loop-number.scratch n (n + 1) row c.first_place.new.self (omega arith)
    (slice_get_read rule.rows _ n row refl low is) inside here c.loop-number.invariant

pub returns-clause-found : goal.returns-clause-found
returns-clause-found g c = λ e.
    let rule = c.args.rule.now in
    let long : length rule.rows ≤ length c.loop-number.scratch = omega (arith, c.requires, c.loop-number.auto.scratch) in
    let passed : length rule.rows ≤ c.loop-number.number =
    omega (arith, c.loop-number-test.false, ap length c.as_slice-rows.ensures) in
    all_combinations (g.B.Board.grid c.args.board.now) (g.B.Board.table c.args.board.now) rule.axis rule.rows
    c.loop-number.scratch rule.along long
    (λ k r o low is there. c.loop-number.invariant k r o (omega (arith, passed, slice_get_within rule.rows k r is)) is
    there)

pub returns-clause-fit : goal.returns-clause-fit
returns-clause-fit g c = λ e.
    let rule = c.args.rule.now in
    let long : length rule.rows ≤ length c.loop-number.scratch = omega (arith, c.requires, c.loop-number.auto.scratch) in
    let passed : length rule.rows ≤ c.loop-number.number =
    omega (arith, c.loop-number-test.false, ap length c.as_slice-rows.ensures) in
    first_fits (g.B.Board.grid c.args.board.now) (g.B.Board.table c.args.board.now) rule.rows c.loop-number.scratch long
    (λ k r o low is there. c.loop-number.invariant k r o (omega (arith, passed, slice_get_within rule.rows k r is)) is
    there)

pub returns-clause-lines : goal.returns-clause-lines
returns-clause-lines g c = λ e k r o low is there.
    let rule = c.args.rule.now in
    let passed : length rule.rows ≤ c.loop-number.number =
    omega (arith, c.loop-number-test.false, ap length c.as_slice-rows.ensures) in
    (c.loop-number.invariant k r o (omega (arith, passed, slice_get_within rule.rows k r is)) is there).lines

pub returns-clause-places : goal.returns-clause-places
returns-clause-places g c = λ e k r o low is there.
    let rule = c.args.rule.now in
    let passed : length rule.rows ≤ c.loop-number.number =
    omega (arith, c.loop-number-test.false, ap length c.as_slice-rows.ensures) in
    (c.loop-number.invariant k r o (omega (arith, passed, slice_get_within rule.rows k r is)) is there).place

pub loop-number-init : goal.loop-number-init
loop-number-init g c = λ k row row_scratch low is there. absurd (omega (arith, low))

pub returns-then-not-first_place-clause-found : goal.returns-then-not-first_place-clause-found
returns-then-not-first_place-clause-found g c = λ e. absurd (true≢false (sym e))

pub returns-then-not-first_place-clause-fit : goal.returns-then-not-first_place-clause-fit
returns-then-not-first_place-clause-fit g c = λ e. absurd (true≢false (sym e))

pub returns-then-not-first_place-clause-lines : goal.returns-then-not-first_place-clause-lines
returns-then-not-first_place-clause-lines g c = λ e. absurd (true≢false (sym e))

pub returns-then-not-first_place-clause-places : goal.returns-then-not-first_place-clause-places
returns-then-not-first_place-clause-places g c = λ e. absurd (true≢false (sym e))

pub returns-then-not-first_place-clause-long : goal.returns-then-not-first_place-clause-long
returns-then-not-first_place-clause-long g c =
    length-set c.loop-number.scratch c.loop-number.number c.first_place.new.self ∙ c.loop-number.auto.scratch

pub returns-clause-none : goal.returns-clause-none
returns-clause-none g c = λ e. absurd (true≢false e)

pub returns-clause-long : goal.returns-clause-long
returns-clause-long g c = c.loop-number.auto.scratch

pub bounds-rows-number : goal.bounds-rows-number
bounds-rows-number g c = c.loop-number-test.true

pub first_place-requires : goal.first_place-requires
first_place-requires g c = c.find_starts.ensures.lines

pub bounds-scratch-number : goal.bounds-scratch-number
bounds-scratch-number g c =
    room_there c.loop-number.number (length c.args.rule.now.rows) (length c.args.scratch.now) (length c.loop-number.scratch)
    (subst (λ (rows : List CompiledRow). c.loop-number.number < length rows) c.as_slice-rows.ensures
    c.loop-number-test.true) c.requires c.loop-number.auto.scratch
