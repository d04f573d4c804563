use Rattle.std.proofs.Common.{◌∙◌, ◌<◌, ap, sym, List, Bool, length, subst, arith, refl}
use Rattle.std.proofs.lemmas.Bool.Decides.{nat_tests}
use Rattle.ps_board.specs.ColumnSets.{set_columns}
use Rattle.ps_board.proofs.EmptyWords.{zero_more, none_set, some_set}
use Rattle.ps_board.proofs.many_words.ManyWordsColumnWords.is_empty.Goals as goal

pub loop-index-preserved : goal.loop-index-preserved
loop-index-preserved g c =
    record {
      none = λ e k near. zero_more c.self.inside.words c.loop-index.all c.loop-index.index k
          c.loop-index.invariant.none e near;
      all = λ every. rw (
        c.loop-index.invariant.all (λ k low. every k (omega (arith, low))),
        every c.loop-index.index (omega arith),
      ) refl;
    }

pub returns-clause-none : goal.returns-clause-none
returns-clause-none g c = λ e. ap set_columns (sym c.self.view_is)
    ∙ none_set c.self.inside.words g.row.COUNT c.self.invariant.long
    (λ k low. c.loop-index.invariant.none (grind (arith, nat_tests, e)) k (omega (arith, low, c.loop-index-test.false)))

pub returns-clause-some : goal.returns-clause-some
returns-clause-some g c = λ e. subst (λ (columns : List Bool). 0 < length (set_columns columns)) c.self.view_is
    (some_set c.self.inside.words g.row.COUNT c.loop-index.all c.self.invariant e
    (λ none. c.loop-index.invariant.all (λ k low. none k (omega (arith, low, c.loop-index.auto.index-end)))))
