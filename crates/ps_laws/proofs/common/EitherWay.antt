-- What holds of a choice, since it holds of both its ends.
use Rattle.std.proofs.Common.{◌≡◌, Bool, true, false, refl}

-- each end where it is chosen
pub either_way : {A : Type 0} (P : A → Type 0) (a b : A) (test : Bool) → (test ≡ true → P a) → (test ≡ false → P b) →
    P (elim test [ true ↦ a | false ↦ b ])
either_way P a b true h k = h refl
either_way P a b false h k = k refl

-- both ends, whichever is chosen
pub kept_either : {A : Type 0} (P : A → Type 0) (a b : A) → P a → P b → (test : Bool) →
    P (elim test [ true ↦ a | false ↦ b ])
kept_either P a b h k test = either_way P a b test (λ e. h) (λ e. k)
