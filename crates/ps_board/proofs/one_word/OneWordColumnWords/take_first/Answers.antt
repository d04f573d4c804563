use Rattle.std.proofs.Common.{◌∙◌, ap, sym, arith}
use Rattle.ps_board.specs.ColumnSets.{set_columns}
use Rattle.ps_board.proofs.WordBits.{none_set, first_taken}
use Rattle.ps_board.proofs.one_word.OneWordColumnWords.take_first.Goals as goal

pub returns-then-self-eq0-clause-none : goal.returns-then-self-eq0-clause-none
returns-then-self-eq0-clause-none c = λ e. ap set_columns (sym c.self.view_is)
    ∙ none_set c.self.inside.bits (omega (arith, c.if-self-eq0.true))

pub returns-clause-some : goal.returns-clause-some
returns-clause-some c = ap set_columns (sym c.self.view_is)
    ∙ first_taken c.self.inside.bits (omega (arith, c.if-self-eq0.false)) c.self.invariant
