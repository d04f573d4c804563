-- Some of a list, and all of it.
use Rattle.std.proofs.Common.{◌≡◌, ◌<◌, Bool, ◌||◌, List, [], ◌∷◌, length, ◌∙◌, ap, arith}
use Rattle.std.specs.List.{list_any, list_all}
use Rattle.std.proofs.Math.Bool.{or-false, or_self}
use mathlib.Core.Path.{fun_ext}

-- two tests that agree on each item
pub any_same : {A : Type 0} (p q : A → Bool) → ((x : A) → p x ≡ q x) → (xs : List A) → list_any p xs ≡ list_any q xs
any_same p q same xs = ap (λ (h : _ → Bool). list_any h xs) (fun_ext same)

pub all_same : {A : Type 0} (p q : A → Bool) → ((x : A) → p x ≡ q x) → (xs : List A) → list_all p xs ≡ list_all q xs
all_same p q same xs = ap (λ (h : _ → Bool). list_all h xs) (fun_ext same)

-- a test that doesn't look at the items
pub any_constant : {A : Type 0} (b : Bool) (xs : List A) → 0 < length xs → list_any (λ x. b) xs ≡ b
any_constant b [] some = absurd (omega arith)
any_constant b (x ∷ []) some = or-false b
any_constant b (x ∷ y ∷ xs) some = ap (λ c. b || c) (any_constant b (y ∷ xs) (omega arith)) ∙ or_self b
