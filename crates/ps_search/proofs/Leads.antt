use Rattle.std.proofs.Common.{◌≡◌, List, [], ◌∷◌, ◌++◌, Option, Some, None, refl, ap, ◌∙◌}
use Rattle.std.specs.Option.{option_and_then}
use Rattle.ps_search.specs.Leads.{led}

-- what comes of nothing more
then_nothing : {Place : Type 0} (place : Option Place) → option_and_then (λ then. Some then) place ≡ place
then_nothing None = refl
then_nothing (Some place) = refl

-- one after the other
then_both : {Place : Type 0} (both first second : Place → Option Place) (place : Option Place) → ((here : Place) → both here ≡ option_and_then second (first here))
    → option_and_then both place ≡ option_and_then second (option_and_then first place)
then_both both first second None same = refl
then_both both first second (Some place) same = same place

module _ {Place Input : Type 0} (next : Place → Input → Option Place) where
  -- inputs, and then others
  pub led-append : (keys more : List Input) (start : Place) → led next start (keys ++ more) ≡ option_and_then (λ then. led next then more) (led next start keys)
  led-append [] more start = refl
  led-append (key ∷ keys) more start =
      then_both (λ then. led next then (keys ++ more)) (λ then. led next then keys) (λ then. led next then more) (next start key) (led-append keys more)

  -- inputs, and then one more
  pub led-push : (keys : List Input) (key : Input) (start place : Place) → led next start keys ≡ Some place → led next start (keys ++ key ∷ []) ≡ next place key
  led-push keys key start place h =
      led-append keys (key ∷ []) start ∙ ap (option_and_then (λ then. led next then (key ∷ []))) h ∙ then_nothing (next place key)
