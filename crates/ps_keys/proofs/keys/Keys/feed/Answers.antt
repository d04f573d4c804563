use Rattle.std.proofs.Common.{◌∙◌, sym, Some, arith}
use Rattle.ps_keys.proofs.FedPieces.{still_silent, fed_key, no_shorter}
use Rattle.ps_keys.proofs.keys.Keys.feed.Goals as goal

pub loop-place-preserved : goal.loop-place-preserved
loop-place-preserved c = rw c.next.ensures.held
    (still_silent c.args.self.now c.loop-place.self c.args.piece.now c.loop-place.place c.loop-place-test.true
    c.loop-place.invariant (sym c.next.ensures.key ∙ c.in_default.is))

pub returns-in-Some-clause-keys : goal.returns-in-Some-clause-keys
returns-in-Some-clause-keys c others =
    fed_key c.args.self.now c.loop-place.self c.next.new.self c.args.piece.now c.loop-place.place (Some c.in-Some.key)
    c.loop-place-test.true c.loop-place.invariant
    (sym c.in-Some.is ∙ c.next.ensures.key) c.next.ensures.held others

pub returns-in-Some-clause-first : goal.returns-in-Some-clause-first
returns-in-Some-clause-first c shorter less =
    no_shorter c.args.self.now c.loop-place.self c.args.piece.now c.loop-place.place shorter c.loop-place.invariant
    (omega arith)

pub returns-clause-first : goal.returns-clause-first
returns-clause-first c shorter less =
    no_shorter c.args.self.now c.loop-place.self c.args.piece.now c.loop-place.place shorter c.loop-place.invariant
    (omega arith)
