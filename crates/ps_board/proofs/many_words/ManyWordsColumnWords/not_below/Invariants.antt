use Rattle.std.specs.Prelude.{◌&&◌, nat_lt, not}
use Rattle.ps_board.specs.WordLists.{words_have}
use Rattle.ps_board.specs.WordSteps.{AreMade}
use Rattle.ps_board.proofs.many_words.ManyWordsColumnWords.not_below.Given as goal

abbrev pub invariant-loop-index : goal.invariant-loop-index
invariant-loop-index g l =
    AreMade (λ x. words_have l.self-inside.words x && not (nat_lt x l.count)) g.row.COUNT l.index l.words
