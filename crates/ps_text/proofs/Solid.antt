-- Places of a line between which no blank stands.
use Rattle.std.proofs.Common.{◌≡◌, ℕ, ◌+◌, ◌<◌, ◌⊎◌, inl, inr, false, List, get_or, ap, ◌∙◌, arith}
use Rattle.ps_model.specs.text.Words.{is_blank}
use Rattle.ps_text.specs.WordRanges.{IsSolid}

before_or_at : (i at : ℕ) → i < at + 1 → (i < at) ⊎ (i ≡ at)
before_or_at i at h = grind arith

-- between a place and itself stands nothing
pub solid_nothing : (line : List ℕ) (at : ℕ) → IsSolid line at at
solid_nothing line at i l m = absurd (omega arith)

-- a byte more
pub solid_more : (line : List ℕ) (start at end : ℕ) → IsSolid line start at → is_blank (get_or line at 0) ≡ false →
    end ≡ at + 1 → IsSolid line start end
solid_more line start at end solid h e i l m = elim (before_or_at i at (omega arith)) [
  | inl before ↦ solid i l before
  | inr same ↦ ap (λ (n : ℕ). is_blank (get_or line n 0)) same ∙ h
]

-- one byte
pub solid_one : (line : List ℕ) (at end : ℕ) → is_blank (get_or line at 0) ≡ false → end ≡ at + 1 → IsSolid line at end
solid_one line at end h e = solid_more line at at end (solid_nothing line at) h e
