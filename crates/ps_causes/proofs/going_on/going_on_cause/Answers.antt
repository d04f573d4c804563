use Rattle.std.proofs.Common.{◌≡◌, ◌-◌, ◌<◌, ◌∙◌, ap, rules, arith, get_or, length, ℕ, List}
use Rattle.ps_text.specs.declared.cutting.Word.{Word}
use Rattle.ps_causes.specs.RuleCauses.{IsFurther}
use Rattle.ps_causes.proofs.SomeWords.{last-of_line}
use Rattle.ps_causes.proofs.going_on.going_on_cause.Goals as goal

pub returns : goal.returns
returns c =
    let words : List Word = c.in_ok-words.words.items in
    let word : Word = c.index-word.result.now in
    let some : 0 < length words = search (rules, arith) in
    let count : c.len.result ≡ length words = search (rules, arith) in
    let further : IsFurther c.args.source.now c.args.line c.in-Some.further = search rules in (
      last-of_line c.args.source.now c.args.line words word some
          (c.index-word.ensures ∙ ap (λ (count : ℕ). get_or words (count - 1) word) count) c.in_ok-words.ensures.each
          c.in_ok-words.ensures.texts,
      further,
    )
