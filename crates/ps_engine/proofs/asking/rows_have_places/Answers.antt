use Rattle.std.proofs.Common.{◌≡◌, ◌∙◌, ℕ, ◌+◌, ◌<◌, ◌≤◌, List, false, get_or, length, refl, true, ap, arith}
use Rattle.std.proofs.Common.{true≢false, sym, subst}
use Rattle.std.proofs.lemmas.Option.{slice_get_read}
use Rattle.std.proofs.lemmas.List.{length-set}
use Rattle.ps_program.specs.declared.rows.CompiledRow.{CompiledRow}
use Rattle.ps_engine.proofs.AskedRows.{more_places, some_combination}
use Rattle.ps_engine.proofs.Combinations.{none_of_row}
use Rattle.ps_engine.proofs.Within.{room_there}
use Rattle.ps_engine.proofs.asking.rows_have_places.Goals as goal

pub returns-then-not-row_has_place-clause-none : goal.returns-then-not-row_has_place-clause-none
returns-then-not-row_has_place-clause-none g c = λ e.
    let grid = g.B.Board.grid c.args.board.now in
    let table = g.B.Board.table c.args.board.now in
    let n : ℕ = c.loop-number.number in
    let rule = c.args.rule.now in
    let row : CompiledRow = c.index-rows-number.result in
    let no : c.row_has_place.result ≡ false = c.if-not-row_has_place.true in
    let low : n < length rule.rows = omega (arith, c.loop-number-test.true, ap length c.as_slice-rows.ensures) in
    let is : row ≡ get_or rule.rows n row = c.index-rows-number.is
    ∙ ap (λ (rs : List CompiledRow). get_or rs n row) c.as_slice-rows.ensures in
    none_of_row grid table row rule.axis rule.rows n rule.along low is (c.row_has_place.ensures.none no)

pub loop-number-preserved : goal.loop-number-preserved
loop-number-preserved g c =
    let grid = g.B.Board.grid c.args.board.now in
    let table = g.B.Board.table c.args.board.now in
    let n : ℕ = c.loop-number.number in
    let rule = c.args.rule.now in
    let row : CompiledRow = c.index-rows-number.result in
    let yes : c.row_has_place.result ≡ true = c.if-not-row_has_place.false in
    let low : n < length rule.rows = omega (arith, c.loop-number-test.true, ap length c.as_slice-rows.ensures) in
    let is : row ≡ get_or rule.rows n row = c.index-rows-number.is
    ∙ ap (λ (rs : List CompiledRow). get_or rs n row) c.as_slice-rows.ensures in
    more_places grid table rule.rows n (n + 1) row (omega arith) (slice_get_read rule.rows _ n row refl low is)
    (c.row_has_place.ensures.some yes) c.loop-number.invariant

pub returns-clause-some : goal.returns-clause-some
returns-clause-some g c = λ e.
    let rule = c.args.rule.now in
    let passed : length rule.rows ≤ c.loop-number.number =
    omega (arith, c.loop-number-test.false, ap length c.as_slice-rows.ensures) in
    some_combination (g.B.Board.grid c.args.board.now) (g.B.Board.table c.args.board.now) rule.axis rule.rows rule.along
    (λ k r low is. c.loop-number.invariant k r (omega (arith, low, passed)) is)

pub loop-number-init : goal.loop-number-init
loop-number-init g c = λ k row low is. absurd (omega (arith, low))

pub returns-then-not-row_has_place-clause-some : goal.returns-then-not-row_has_place-clause-some
returns-then-not-row_has_place-clause-some g c = λ e. absurd (true≢false (sym e))

pub returns-then-not-row_has_place-clause-long : goal.returns-then-not-row_has_place-clause-long
returns-then-not-row_has_place-clause-long g c =
    length-set c.loop-number.scratch c.loop-number.number c.row_has_place.new.row_scratch ∙ c.loop-number.auto.scratch

pub returns-clause-none : goal.returns-clause-none
returns-clause-none g c = λ e. absurd (true≢false e)

pub returns-clause-long : goal.returns-clause-long
returns-clause-long g c = c.loop-number.auto.scratch

pub bounds-rows-number : goal.bounds-rows-number
bounds-rows-number g c = c.loop-number-test.true

pub bounds-scratch-number : goal.bounds-scratch-number
bounds-scratch-number g c =
    room_there c.loop-number.number (length c.args.rule.now.rows) (length c.args.scratch.now) (length c.loop-number.scratch)
    (subst (λ (rows : List CompiledRow). c.loop-number.number < length rows) c.as_slice-rows.ensures
    c.loop-number-test.true) c.requires c.loop-number.auto.scratch
