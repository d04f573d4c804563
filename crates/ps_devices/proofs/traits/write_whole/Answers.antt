use Rattle.std.proofs.Common.{◌≡◌, ◌+◌, ◌<◌, length, arith, take-add, rules}
use Rattle.std.proofs.lemmas.Grind.{common_steps}
use Rattle.ps_devices.proofs.Calls.{one_call, one_at_most, never_less, few_more, short_more}
use Rattle.ps_devices.proofs.Pieces.{grows_twice}
use Rattle.ps_devices.proofs.traits.write_whole.Goals as goal

pub loop-done-preserved : goal.loop-done-preserved
loop-done-preserved g c =
    let one : (g.W.ByteWriter.state c.write_some.new.self).calls ≡ (g.W.ByteWriter.state c.loop-done.writer).calls + 1 =
    one_call _ _ _ c.in-Ok.ensures.counted c.in-Ok.ensures.worn in
    let some : 0 < c.in-Ok.count = search (rules, arith) in
    record {
      within = grind (arith, common_steps);
      taken = grows_twice _ _ _ _ _ _ c.loop-done.invariant.taken c.in-Ok.ensures.taken
          (rw c.split_at.ensures.back (take-add c.loop-done.done c.in-Ok.count c.args.bytes.now));
      well = search (rules, arith);
      calls = omega (arith, one, some, c.loop-done.invariant.calls);
      called = λ more. omega (arith, one, c.loop-done.invariant.counts);
      counts = omega (arith, one, c.loop-done.invariant.counts);
      none_empty = search (rules, arith);
      shorts = omega (arith, c.loop-done.invariant.shorts, c.write_some.ensures.shorts);
      so_far = λ left.
          let less : c.in-Ok.count < length c.split_at.result.1.now =
          omega (arith, left, c.split_at.ensures.back_len) in
          short_more _ _ _ _ _ _ (c.loop-done.invariant.so_far c.loop-done-test.true) one
          (c.in-Ok.ensures.short less);
      few = few_more _ _ _ _ _ _ (c.loop-done.invariant.so_far c.loop-done-test.true) (omega (arith, one))
          c.write_some.ensures.shorts;
    }

pub returns-in-Err-clause-front : goal.returns-in-Err-clause-front
returns-in-Err-clause-front g c =
    let one = one_at_most _ _ _ c.write_some.ensures.counted c.write_some.ensures.held in
    let least = never_less _ _ _ c.write_some.ensures.counted c.write_some.ensures.held in (
      c.loop-done.done,
      c.loop-done-test.true,
      search (rules, arith),
      omega (arith, one, c.loop-done.invariant.calls),
      λ some. omega (arith, least, c.loop-done.invariant.called some),
    )

pub returns-in-Err-clause-few : goal.returns-in-Err-clause-few
returns-in-Err-clause-few g c =
    let one = one_at_most _ _ _ c.write_some.ensures.counted c.write_some.ensures.held in
    few_more _ _ _ _ _ _ (c.loop-done.invariant.so_far c.loop-done-test.true) one c.write_some.ensures.shorts
