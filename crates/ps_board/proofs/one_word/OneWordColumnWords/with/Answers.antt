use Rattle.std.proofs.Common.{◌∙◌, ap, sym, List, Bool, true, false}
use Rattle.ps_board.specs.ColumnSets.{with_column}
use Rattle.ps_board.proofs.WordBits.{set_word, cleared_word, set_below}
use Rattle.ps_board.proofs.one_word.OneWordColumnWords.with.Goals as goal

pub invariant_of-result : goal.invariant_of-result
invariant_of-result c = set_below c.self.inside.bits c.args.column c.self.invariant

pub returns-then-set : goal.returns-then-set
returns-then-set c =
    set_word c.self.inside.bits c.args.column c.requires
    ∙ ap (λ (columns : List Bool). with_column columns c.args.column true) c.self.view_is
    ∙ ap (with_column c.args.self c.args.column) (sym c.if-set.true)

pub returns : goal.returns
returns c =
    cleared_word c.self.inside.bits c.args.column c.self.invariant c.requires
    ∙ ap (λ (columns : List Bool). with_column columns c.args.column false) c.self.view_is
    ∙ ap (with_column c.args.self c.args.column) (sym c.if-set.false)
