use Rattle.std.proofs.Common.{◌∙◌, sym}
use Rattle.ps_warnings.proofs.LayersPassed.{none_of_word, one_of_word}
use Rattle.ps_warnings.proofs.layers.first_by_words.Goals as goal

pub loop-word-preserved : goal.loop-word-preserved
loop-word-preserved c =
    none_of_word c.args.names.now c.args.layer c.args.words.now c.loop-word.word-index _ c.text.result.now
    c.in_ok-found.found _ c.loop-word-test.true c.text.ensures c.in_ok-found.ensures
    (sym c.is_some.ensures ∙ c.if-is_some.false) c.loop-word.invariant

pub returns-then-is_some : goal.returns-then-is_some
returns-then-is_some c =
    one_of_word c.args.names.now c.args.layer c.args.words.now c.loop-word.word-index _ c.text.result.now
    c.in_ok-found.found _ c.loop-word-test.true c.text.ensures c.in_ok-found.ensures
    (sym c.is_some.ensures ∙ c.if-is_some.true) c.loop-word.invariant
