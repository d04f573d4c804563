-- Lines end at line feeds.
use Rattle.std.specs.Prelude.{◌≡◌, ◌≢◌, ℕ, List, ◌∷◌, ◌++◌, All}

-- no byte ends a line
abbrev pub EndsNoLine : List ℕ → Type 0
EndsNoLine bytes = All (λ byte. byte ≢ 10) bytes

-- some bytes are a line, the line feed that ends it, and others
pub record IsCutAt (bytes line others : List ℕ) : Type 0 where
  pub whole : bytes ≡ line ++ 10 ∷ others
  pub first : EndsNoLine line
