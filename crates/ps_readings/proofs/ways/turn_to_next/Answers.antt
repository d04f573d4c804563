use Rattle.std.proofs.Common.{◌≡◌, ◌∙◌, ◌+◌, ◌-◌, ◌<◌, ℕ, length, arith, ap, sym, true≢false}
use Rattle.ps_readings.specs.declared.wheels.Wheel.{Wheel}
use Rattle.ps_readings.proofs.WayByWay.{turned-here, ended-none, ended-first, same-read}
use Rattle.ps_readings.proofs.ways.turn_to_next.Goals as goal

pub returns-then-index-count-clause-next : goal.returns-then-index-count-clause-next
returns-then-index-count-clause-next g c _ =
    let place : ℕ = c.loop-place.place in
    let back : place ≡ place - 1 + 1 = omega arith in
    let inside : place - 1 < length c.loop-place.wheels.items =
    omega (arith, c.loop-place.invariant.within, c.loop-place.invariant.long) in
    let here : c.index_mut.result.now.place ≡ c.index-then-count-gt0.result.now.place =
    ap (λ (wheel : Wheel _). wheel.place) (same-read c.loop-place.wheels.items (place - 1) c.index_mut.result.now
    c.index-then-count-gt0.result.now inside c.index_mut.ensures.value c.index-then-count-gt0.ensures) in
    let many : length c.index_mut.result.now.items ≡ length c.as_slice-count.result.now =
    ap (λ (wheel : Wheel _). length wheel.items)
    (same-read c.loop-place.wheels.items (place - 1) c.index_mut.result.now c.index.result.now inside
    c.index_mut.ensures.value c.index.ensures)
    ∙ ap length (sym c.as_slice-count.ensures) in
    let less : c.index_mut.result.now.place + 1 < length c.index_mut.result.now.items = omega arith in
    turned-here place (place - 1) c.args.wheels.now.items c.loop-place.wheels.items c.index_mut.result.now back
    c.loop-place.invariant.within c.loop-place.invariant.long c.loop-place.invariant.front
    c.loop-place.invariant.behind c.loop-place.invariant.none c.index_mut.ensures.value less

pub returns-then-index-count-clause-none : goal.returns-then-index-count-clause-none
returns-then-index-count-clause-none g c e = absurd (true≢false e)

pub returns-then-index-count-clause-first : goal.returns-then-index-count-clause-first
returns-then-index-count-clause-first g c e = absurd (true≢false e)

pub returns : goal.returns
returns g c = record {
  next = λ e. absurd (true≢false (sym e));
  none = λ e. ended-none c.loop-place.place c.args.wheels.now.items c.loop-place-test.false
      c.loop-place.invariant.none;
  first = λ e. ended-first c.loop-place.place c.args.wheels.now.items c.loop-place.wheels.items
      c.loop-place-test.false c.loop-place.invariant.behind;
}
