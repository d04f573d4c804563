use Rattle.ps_board.proofs.Bits.{and_bit, or_bit, minus_bit, xor_bit}
use Rattle.ps_board.proofs.many_words.joined_word.Goals as goal

pub returns-in-Both-clause-bits : goal.returns-in-Both-clause-bits
returns-in-Both-clause-bits c = λ x low. rw c.in-Both.is (and_bit c.args.first c.args.second x)

pub returns-in-Either-clause-bits : goal.returns-in-Either-clause-bits
returns-in-Either-clause-bits c = λ x low. rw c.in-Either.is (or_bit c.args.first c.args.second x)

pub returns-in-Without-clause-bits : goal.returns-in-Without-clause-bits
returns-in-Without-clause-bits c = λ x low. rw c.in-Without.is
    (minus_bit c.args.first c.args.second x c.ranges.second.fits low)

pub returns-in-Unlike-clause-bits : goal.returns-in-Unlike-clause-bits
returns-in-Unlike-clause-bits c = λ x low. rw c.in-Unlike.is (xor_bit c.args.first c.args.second x)
