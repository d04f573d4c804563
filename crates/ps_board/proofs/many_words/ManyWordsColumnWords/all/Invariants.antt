use Rattle.std.specs.Prelude.{nat_lt}
use Rattle.ps_model.specs.declared.limits.TheConstants.{SIDE_LIMIT}
use Rattle.ps_board.specs.WordSteps.{AreMade}
use Rattle.ps_board.proofs.many_words.ManyWordsColumnWords.all.Given as goal

abbrev pub invariant-loop-index : goal.invariant-loop-index
invariant-loop-index g l = AreMade (λ x. nat_lt x SIDE_LIMIT) g.row.COUNT l.index l.words
