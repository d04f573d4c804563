use Rattle.std.proofs.Common.{◌∙◌, ◌<◌, ap, sym, List, Bool, length, subst}
use Rattle.ps_board.specs.ColumnSets.{set_columns}
use Rattle.ps_board.proofs.WordBits.{none_tested, some_tested}
use Rattle.ps_board.proofs.one_word.OneWordColumnWords.is_empty.Goals as goal

pub returns-clause-none : goal.returns-clause-none
returns-clause-none c = λ e. ap set_columns (sym c.self.view_is) ∙ none_tested c.self.inside.bits e

pub returns-clause-some : goal.returns-clause-some
returns-clause-some c = λ e. subst (λ (columns : List Bool). 0 < length (set_columns columns)) c.self.view_is
    (some_tested c.self.inside.bits e c.self.invariant)
