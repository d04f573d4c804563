use Rattle.ps_board.specs.Joinings.{words_joined}
use Rattle.ps_board.specs.WordSteps.{AreMade}
use Rattle.ps_board.proofs.many_words.ManyWords.joined.Given as goal

abbrev pub invariant-loop-index : goal.invariant-loop-index
invariant-loop-index g l =
    AreMade (words_joined l.joining l.self-inside.words l.other-inside.words) g.row.COUNT l.index l.words
