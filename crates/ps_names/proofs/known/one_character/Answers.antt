use Rattle.std.proofs.Common.{◌≡◌, [], sym, ◌∙◌, arith, true≢false}
use Rattle.std.proofs.lemmas.Grind.{common_steps}
use Rattle.ps_names.proofs.common.Characters.{one_alone, more_than_one}
use Rattle.ps_names.proofs.known.one_character.Goals as goal

pub returns-then-is_empty : goal.returns-then-is_empty
returns-then-is_empty c =
    let none : c.as_str-rest.result.now ≡ [] = grind (arith, common_steps) in
    sym (one_alone c.args.text.now _ _ c.utf8.text (sym c.chars-characters.ensures.rest
    ∙ c.in_ok-first.ensures.steps.0) (sym c.as_str-rest.ensures ∙ none))

pub returns : goal.returns
returns c =
    let some : c.next.new.self.rest.now ≡ [] → ⊥ = λ e. true≢false (grind (arith, common_steps)) in
    sym (more_than_one c.args.text.now _ _ c.utf8.text (rw (← c.as_str-rest.ensures) c.as_str-rest.utf8)
    (sym c.chars-characters.ensures.rest ∙ c.in_ok-first.ensures.steps.0) some)
