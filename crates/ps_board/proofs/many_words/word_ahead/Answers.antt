use Rattle.std.proofs.Common.{◌≡◌, ◌-◌, ◌/◌, ◌%◌, ◌⊎◌, inl, inr, arith}
use Rattle.ps_board.proofs.MovedWords.{ahead_one, ahead_two}
use Rattle.ps_board.proofs.many_words.word_ahead.Goals as goal

pub returns-then-count-eq0-clause-tells : goal.returns-then-count-eq0-clause-tells
returns-then-count-eq0-clause-tells c =
    let one : (c.args.count % 64 ≡ 0) ⊎ (c.args.index ≡ c.args.count / 64) =
    elim c.then-count-eq0.either [ inl whole ↦ inl whole | inr last ↦ inr last.1 ] in
    ahead_one c.args.words.now c.args.index c.args.count c.if-index-steps.false one

pub returns-clause-tells : goal.returns-clause-tells
returns-clause-tells c =
    ahead_two c.args.words.now c.args.index c.args.count
    (omega (arith, c.if-index-steps.false, c.if-index-steps-2.false))
    (c.type_inv.words (c.args.index - c.args.count / 64 - 1)).fits
