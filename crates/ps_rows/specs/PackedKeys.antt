-- The keys of boards: bits, of which each belongs to a place that was noted. Places are numbered as they are met.
use Rattle.std.specs.Prelude.{◌≡◌, ℕ, ◌/◌, ◌%◌, ◌<◌, ◌≤◌, not, Bool, true, false, List, length, slice_index_or}
use Rattle.ps_board.specs.ColumnSets.{bit_is_set}
use Rattle.ps_board.specs.WordLists.{word_at}
use Rattle.ps_rows.specs.declared.noted_cells.TheConstants.{UNNOTED}

-- a truth value turned round, or not
abbrev pub flipped : Bool → Bool → Bool
flipped false b = b
flipped true b = not b

-- a bit of a key
unfoldable pub key_bit : List ℕ → ℕ → Bool
key_bit words k = bit_is_set (word_at words (k / 64)) (k % 64)

-- no bit from a count on is set
abbrev pub IsWithin : ℕ → List ℕ → Type 0
IsWithin count words = (k : ℕ) → count ≤ k → key_bit words k ≡ false

-- the number of a place, if it is noted
abbrev pub number_at : List ℕ → ℕ → ℕ
number_at numbers place = slice_index_or numbers place UNNOTED

-- each noted place has its number, and no other place has it
pub record AreNoted (numbers places : List ℕ) : Type 0 where
  pub few : length places ≤ UNNOTED
  pub numbered : (k : ℕ) → k < length places → number_at numbers (slice_index_or places k 0) ≡ k
  pub placed : (place : ℕ) → number_at numbers place < length places →
      slice_index_or places (number_at numbers place) 0 ≡ place
  pub each : (place : ℕ) → length places ≤ number_at numbers place → number_at numbers place ≡ UNNOTED

-- a key says that a place differs from the start
unfoldable pub differs : List ℕ → List ℕ → ℕ → Bool
differs numbers words place = key_bit words (number_at numbers place)

-- what keys say stays, where further places are noted
abbrev pub KeepsKeys : List ℕ → ℕ → List ℕ → ℕ → Type 0
KeepsKeys numbers count more counted = (words : List ℕ) → IsWithin count words →
    IsWithin counted words × ((place : ℕ) → differs more words place ≡ differs numbers words place)

-- behind a change what is said of places is turned round, for those for which a test holds; and where some, the rest,
-- aren't turned round yet
abbrev pub Turned : (ℕ → Bool) → (ℕ → Bool) → (ℕ → Bool) → Type 0
Turned which before after = (place : ℕ) → after place ≡ flipped (which place) (before place)

abbrev pub TurnedBut : (ℕ → Bool) → (ℕ → Bool) → (ℕ → Bool) → (ℕ → Bool) → Type 0
TurnedBut rest which before after =
    (place : ℕ) → flipped (rest place) (after place) ≡ flipped (which place) (before place)

-- a key after places were turned round, those for which a test holds
pub record AreTurned (which : ℕ → Bool) (numbers : List ℕ) (words : List ℕ) (counted : ℕ) (more after : List ℕ) : Type 0
  where
    pub within : IsWithin counted after
    pub turned : Turned which (differs numbers words) (differs more after)
