use Rattle.std.proofs.Common.{◌≡◌, ◌++◌, ℕ, List, arith, drop, length, min, take}
use Rattle.lizhakoven.proofs.InMemory.{copied_front, plays_rightly}
use Rattle.lizhakoven.proofs.playing.play.Goals as goal

pub returns-clause-played : goal.returns-clause-played
returns-clause-played c =
    let wrote : List ℕ = c.bytes-written.result.now in
    let memory : List ℕ = c.args.output.now in
    let count : ℕ = c.min-length.result in
    let least : count ≡ min (length wrote) (length memory) = c.min-length.ensures in
    let kept : take count (c.copy_from_slice.new.self ++ drop count memory) ≡ take count wrote =
    copied_front wrote c.copy_from_slice.new.self (drop count memory) count (omega (arith, least))
    c.copy_from_slice.ensures.after in
    rw (kept, least, c.how_played.ensures)
    (plays_rightly c.args.text.now c.args.keys.now wrote (length memory) _ _ _ _ c.run-answer.result
    c.new-reader.ensures c.new-writer.ensures c.run-answer.ensures.rightly c.run-answer.new.reader.well
    c.bytes-written.ensures)
