use Rattle.std.specs.Prelude.{◌+◌}
use Rattle.ps_board.specs.WordLists.{words_have}
use Rattle.ps_board.specs.WordSteps.{AreMade}
use Rattle.ps_board.proofs.many_words.ManyWordsColumnWords.behind.Given as goal

abbrev pub invariant-loop-index : goal.invariant-loop-index
invariant-loop-index g l = AreMade (λ x. words_have l.self-inside.words (x + l.count)) g.row.COUNT l.index l.words
