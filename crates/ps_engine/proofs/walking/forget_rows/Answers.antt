use Rattle.std.proofs.Common.{◌≡◌, ◌∙◌, ℕ, ◌+◌, ◌<◌, Some, get_or, length, refl, sym, arith}
use Rattle.std.specs.Prelude.{slice_get}
use Rattle.std.proofs.lemmas.Option.{slice_get-get_or, slice_get_read}
use Rattle.ps_places.specs.Scratch.{Scratch}
use Rattle.ps_engine.proofs.ScratchChanged.{left_as_they_are, left_more}
use Rattle.ps_engine.proofs.ScratchForgetting.{forgotten_more, none_forgotten}
use Rattle.ps_engine.proofs.Within.{room_there}
use Rattle.ps_laws.proofs.common.Orders.{less_up}
use Rattle.ps_engine.proofs.walking.forget_rows.Goals as goal

pub loop-number-init : goal.loop-number-init
loop-number-init g c = record {
  forgotten = none_forgotten c.args.rows.now c.args.scratch.now;
  left = left_as_they_are c.args.scratch.now 0;
}

pub forget-requires : goal.forget-requires
forget-requires g c =
    let n : ℕ = c.loop-number.number in
    let low : n < length c.args.rows.now = omega (arith, c.loop-number-test.true, c.requires.count) in
    let inside : n < length c.loop-number.scratch =
    omega (arith, low, c.requires.long, c.loop-number.invariant.forgotten.long) in
    c.requires.among n c.index-rows-number.result (get_or c.loop-number.scratch n c.index-scratch-number.result)
    c.loop-number-test.true
    (slice_get_read c.args.rows.now _ n c.index-rows-number.result refl low c.index-rows-number.is)
    (sym (c.loop-number.invariant.left n (omega arith))
    ∙ slice_get-get_or c.loop-number.scratch n c.index-scratch-number.result inside)

pub loop-number-preserved : goal.loop-number-preserved
loop-number-preserved g c =
    let n : ℕ = c.loop-number.number in
    let low : n < length c.args.rows.now = omega (arith, c.loop-number-test.true, c.requires.count) in
    let inside : n < length c.loop-number.scratch =
    omega (arith, low, c.requires.long, c.loop-number.invariant.forgotten.long) in
    let before : Scratch = get_or c.loop-number.scratch n c.index-scratch-number.result in
    let there : slice_get c.loop-number.scratch n ≡ Some before =
    slice_get-get_or c.loop-number.scratch n c.index-scratch-number.result inside in
    record {
      forgotten =
          forgotten_more c.args.rows.now c.args.scratch.now c.loop-number.scratch n c.index-rows-number.result before
          c.forget.new.self
          c.loop-number.invariant.forgotten c.loop-number.invariant.left
          (slice_get_read c.args.rows.now _ n c.index-rows-number.result refl low c.index-rows-number.is) there
          c.forget.ensures;
      left = left_more c.args.scratch.now c.loop-number.scratch n before c.forget.new.self (n + 1)
          (omega arith) c.loop-number.invariant.left;
    }

pub returns-clause-forgotten : goal.returns-clause-forgotten
returns-clause-forgotten g c = c.loop-number.invariant.forgotten

pub returns-clause-left : goal.returns-clause-left
returns-clause-left g c = λ k high.
    c.loop-number.invariant.left k (omega (arith, high, c.loop-number.auto.number-end))

pub bounds-rows-number : goal.bounds-rows-number
bounds-rows-number g c =
    less_up c.loop-number.number c.args.count (length c.args.rows.now) c.loop-number-test.true c.requires.count

pub bounds-scratch-number : goal.bounds-scratch-number
bounds-scratch-number g c =
    room_there c.loop-number.number (length c.args.rows.now) (length c.args.scratch.now)
    (length c.loop-number.scratch)
    (less_up c.loop-number.number c.args.count (length c.args.rows.now) c.loop-number-test.true c.requires.count)
    c.requires.long c.loop-number.auto.scratch
