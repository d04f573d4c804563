use Rattle.ps_board.proofs.Bits.{set_bit, clear_bit}
use Rattle.ps_board.proofs.many_words.word_with.Goals as goal

pub returns-then-set : goal.returns-then-set
returns-then-set c = λ x low. rw c.if-set.true (set_bit c.args.word c.args.place x c.requires)

pub returns : goal.returns
returns c = λ x low. rw c.if-set.false (clear_bit c.args.word c.args.place x c.requires low)
