-- Words that are made one after the other.
use Rattle.std.specs.Prelude.{ℕ, ◌+◌, ◌*◌, ◌≡◌, ◌<◌, Bool, List}
use Rattle.ps_model.specs.declared.limits.TheConstants.{SIDE_LIMIT}
use Rattle.ps_board.specs.ColumnSets.{bit_is_set}
use Rattle.ps_board.specs.WordLists.{word_at, AreWords}

-- the bits of a word at an index tell what holds of the columns there
abbrev pub TellsAt : (ℕ → Bool) → ℕ → ℕ → Type 0
TellsAt holds index word =
    (x : ℕ) → x < 64 → index * 64 + x < SIDE_LIMIT → bit_is_set word x ≡ holds (index * 64 + x)

-- so do those of so many words
abbrev pub Tell : (ℕ → Bool) → ℕ → List ℕ → Type 0
Tell holds count words = (k : ℕ) → k < count → TellsAt holds k (word_at words k)

-- words of a set, so many of which are made
pub record AreMade (holds : ℕ → Bool) (count index : ℕ) (words : List ℕ) : Type 0 where
  pub sound : AreWords count words
  pub tell : Tell holds index words
