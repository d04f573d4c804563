use Rattle.std.proofs.Common.{◌≡◌, ◌≤◌, ◌∙◌, [], Err, length, take, refl, sym, ap, arith, rules}
use Rattle.ps_model.specs.declared.limits.TheConstants.{CALL_LIMIT}
use Rattle.ps_devices.specs.Devices.{Loses}
use Rattle.ps_devices.proofs.Calls.{one_call}
use Rattle.ps_run.proofs.Running as runs
use Rattle.ps_run.proofs.play.Play.play.Goals as goal

pub loop-call-init : goal.loop-call-init
loop-call-init g c = record {
  plays = refl;
  heard = c.requires.heard;
  well = c.requires.well;
  stands = λ before started. runs.none_asked _ _ before _ _ _ started;
}

pub returns-in-Some-clause-answers : goal.returns-in-Some-clause-answers
returns-in-Some-clause-answers g c = λ before started.
    runs.ended_before _ _ _ before _ _ _ _ c.in-Some.ending c.requires.heard c.loop-call.invariant.heard
    c.loop-call.invariant.well (c.loop-call.invariant.stands before started) (sym c.in-Some.ensures)

pub returns-in_default-read_some-clause-answers : goal.returns-in_default-read_some-clause-answers
returns-in_default-read_some-clause-answers g c = λ before started.
    runs.call_failed _ _ _ _ before _ _ _ _ c.requires.heard c.loop-call.invariant.well c.loop-call-test.true
    (c.loop-call.invariant.stands before started) (sym c.in_default.ensures)
    c.in_default-read_some.ensures.told c.in_default-read_some.ensures.stays c.in_default-read_some.ensures.last_none
    c.read_some.ensures.counted c.read_some.ensures.held
    c.in_default-read_some.ensures.none (c.read_some.ensures.even_sized (search rules))

pub returns-in-Ok-end_keys-clause-answers : goal.returns-in-Ok-end_keys-clause-answers
returns-in-Ok-end_keys-clause-answers g c = λ before started.
    let counted = one_call _ _ _ c.in-Ok.ensures.counted c.in-Ok.ensures.worn in
    let none : take c.in-Ok.count c.read_some.new.buffer ≡ [] = rw c.if-count-eq0.true refl in
    let gives : Loses (g.I.ByteReader.state c.loop-call.reader).remaining
    (g.I.ByteReader.state c.read_some.new.self).remaining [] = rw none at c.in-Ok.ensures.given in
    runs.keys_ended _ _ _ _ before _ _ _ _ _ c.requires.heard (c.in-Ok.ensures.well
    ∙ c.loop-call.invariant.heard) (c.in-Ok-end_keys.ensures.well (λ e. cc)) c.loop-call-test.true
    (c.loop-call.invariant.stands before started) (sym c.in_default.ensures) gives
    (c.in-Ok.ensures.end c.if-count-eq0.true (search rules)) (c.in-Ok.ensures.last_count
    ∙ c.if-count-eq0.true) counted
    (c.in-Ok.ensures.empty c.if-count-eq0.true) (c.in-Ok.ensures.even_sized (search rules))
    c.in-Ok-end_keys.ensures.written

pub returns-in-Err-clause-answers : goal.returns-in-Err-clause-answers
returns-in-Err-clause-answers g c = λ before started.
    let counted = one_call _ _ _ c.in-Ok.ensures.counted c.in-Ok.ensures.worn in
    let none : take c.in-Ok.count c.read_some.new.buffer ≡ [] = rw c.if-count-eq0.true refl in
    let gives : Loses (g.I.ByteReader.state c.loop-call.reader).remaining
    (g.I.ByteReader.state c.read_some.new.self).remaining [] = rw none at c.in-Ok.ensures.given in
    rw c.fault_of_piece.ensures
    (runs.keys_ended_unwritten c.in-Err.fault _ _ _ _ before _ _ _ _ _ c.requires.heard (c.in-Ok.ensures.well
    ∙ c.loop-call.invariant.heard)
    (λ memory. c.in-Err.ensures.well (λ e. cc)) (λ write. c.in-Err.ensures.told (ap Err write)) c.loop-call-test.true
    (c.loop-call.invariant.stands before started) (sym c.in_default.ensures) gives
    (c.in-Ok.ensures.end c.if-count-eq0.true (search rules)) (c.in-Ok.ensures.last_count
    ∙ c.if-count-eq0.true) counted
    (c.in-Ok.ensures.empty c.if-count-eq0.true) (c.in-Ok.ensures.even_sized (search rules)) c.in-Err.ensures.stops)

pub returns-in-Err-play_piece-clause-answers : goal.returns-in-Err-play_piece-clause-answers
returns-in-Err-play_piece-clause-answers g c = λ before started.
    let counted = one_call _ _ _ c.in-Ok.ensures.counted c.in-Ok.ensures.worn in
    let stops = rw (c.loop-call.invariant.plays, c.split_at.ensures.front) at c.in-Err-play_piece.ensures.stops in
    let long : length (take c.in-Ok.count c.read_some.new.buffer) ≡ c.in-Ok.count =
    rw (← c.split_at.ensures.front) c.split_at.ensures.front_len in
    rw c.fault_of_piece-in-Err-play_piece.ensures
    (runs.piece_unwritten c.in-Err-play_piece.fault _ _ _ _ before _ _ _ _ _
    (take c.in-Ok.count c.read_some.new.buffer) c.requires.heard (c.in-Ok.ensures.well
    ∙ c.loop-call.invariant.heard)
    (λ memory. c.in-Err-play_piece.ensures.well (λ e. cc)) (λ write.
    c.in-Err-play_piece.ensures.told (ap Err write)) c.loop-call-test.true
    (c.loop-call.invariant.stands before started) (sym c.in_default.ensures) (rw long (search rules))
    (rw long (search rules)) c.in-Ok.ensures.given
    (c.in-Ok.ensures.last_count ∙ sym long) counted (c.in-Ok.ensures.some (search rules))
    (c.in-Ok.ensures.even_sized (search rules)) (λ bytes played. stops before bytes played))

pub loop-call-preserved : goal.loop-call-preserved
loop-call-preserved g c =
    let counted = one_call _ _ _ c.in-Ok.ensures.counted c.in-Ok.ensures.worn in
    let plays = rw (c.loop-call.invariant.plays, c.split_at.ensures.front) at c.in_default-play_piece.ensures.played in
    let long : length (take c.in-Ok.count c.read_some.new.buffer) ≡ c.in-Ok.count =
    rw (← c.split_at.ensures.front) c.split_at.ensures.front_len in
    let size : length c.loop-call.buffer ≡ CALL_LIMIT = search rules in
    let some : 1 ≤ c.in-Ok.count = omega (arith, c.if-count-eq0.false) in
    let short : c.in-Ok.count ≤ CALL_LIMIT = omega (arith, c.in-Ok.ensures.count, size) in
    record {
      plays = c.in_default-play_piece.ensures.script ∙ c.loop-call.invariant.plays;
      heard = c.in-Ok.ensures.well ∙ c.loop-call.invariant.heard;
      well = c.in_default-play_piece.ensures.well (λ e. cc);
      stands = λ before started.
          runs.one_more _ _ _ _ before _ _ _ _ _ _ _ (take c.in-Ok.count c.read_some.new.buffer) c.loop-call-test.true
          (c.loop-call.invariant.stands before started) (sym c.in_default.ensures) (rw long some) (rw long short)
          c.in-Ok.ensures.given
          (c.in-Ok.ensures.last_count ∙ sym long) counted (c.in-Ok.ensures.some some) (c.in-Ok.ensures.even_sized size)
          (λ bytes played. plays before bytes played);
    }

pub returns-in-Some-ending-clause-answers : goal.returns-in-Some-ending-clause-answers
returns-in-Some-ending-clause-answers g c = λ before started.
    runs.ended_before _ _ _ before _ _ _ _ c.in-Some-ending.ending c.requires.heard c.loop-call.invariant.heard
    c.loop-call.invariant.well (c.loop-call.invariant.stands before started) (sym c.in-Some-ending.ensures)

pub returns-in-None-clause-answers : goal.returns-in-None-clause-answers
returns-in-None-clause-answers g c = λ before started.
    let stands = c.loop-call.invariant.stands before started in
    runs.limit_reached _ _ _ before _ _ _ _ c.requires.heard c.loop-call.invariant.heard c.loop-call.invariant.well
    (search rules)
    stands.reading stands.is_asked stands.counted stands.given stands.calls stands.last stands.none_empty
    stands.same_room stands.played (sym c.in-None.ensures)
