-- Words that are written much alike.
use Rattle.std.specs.Prelude.{◌≡◌, ◌≤◌, ◌⊎◌, ℕ, List, ◌++◌, length}
use Rattle.ps_model.specs.text.Lines.{folded}
use Rattle.ps_facts.specs.declared.near.TheConstants.{LEAST_FOR_ONE, LEAST_FOR_TWO}

-- one edit at most makes one of the other: between a front and an end that both have stands a byte at most in each
pub record AreWithinOne (word other : List ℕ) : Type 0 where
  pub front : List ℕ
  pub byte : List ℕ
  pub other_byte : List ℕ
  pub behind : List ℕ
  pub few : length byte ≤ 1
  pub other_few : length other_byte ≤ 1
  pub is : word ≡ front ++ (byte ++ behind)
  pub other_is : other ≡ front ++ (other_byte ++ behind)

-- two edits at most do, one after the other
pub record AreWithinTwo (word other : List ℕ) : Type 0 where
  pub between : List ℕ
  pub one : AreWithinOne word between
  pub other_one : AreWithinOne between other

-- a name is written much like a word, in whatever case its letters are: one edit at most makes it of a word of some bytes,
-- or two of a longer one
abbrev pub IsNear : List ℕ → List ℕ → Type 0
IsNear word name =
    ((LEAST_FOR_ONE ≤ length word) × AreWithinOne (folded word) (folded name))
    ⊎ ((LEAST_FOR_TWO ≤ length word) × AreWithinTwo (folded word) (folded name))
