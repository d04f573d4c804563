use Rattle.std.proofs.Common.{◌≡◌, suc, Bool, true, false, ◌||◌, List, [], ◌∷◌, refl, sym, ap, ◌∙◌, true≢false}
use Rattle.std.specs.List.{list_any}
use Rattle.ps_search.specs.Noted.{IsKnown}

module _ {Key : Type 0} (eq : Key → Key → Bool) where
  -- a key that one of the keys is equal to is known
  pub known : (keys : List Key) (key : Key) → list_any (eq key) keys ≡ true → IsKnown eq keys key
  known [] key h = absurd (true≢false (sym h))
  known (first ∷ rest) key h = by (eq key first) refl (λ e. known rest key (sym (ap (λ c. c || list_any (eq key) rest) e) ∙ h))
    where
      by : (b : Bool) → eq key first ≡ b → (eq key first ≡ false → IsKnown eq rest key) → IsKnown eq (first ∷ rest) key
      by true e later = (0, first, refl, e)
      by false e later = let r : IsKnown eq rest key = later e in (suc r.0, r.1, r.2, r.3)
