-- Lists that are joined from the left.
use Rattle.std.proofs.Common.{◌≡◌, ◌∙◌, ℕ, List, ◌++◌, ap, append_assoc}

-- one more part
pub joined : (a x y s t : List ℕ) → s ≡ a ++ x → t ≡ s ++ y → t ≡ a ++ (x ++ y)
joined a x y s t is then = then ∙ ap (λ (l : List ℕ). l ++ y) is ∙ append_assoc a x y
