-- Words that are written much alike: few edits make one of the other. An edit puts a byte in, leaves one out, or changes
-- one. It stands where the two words differ first, as what both begin with needs none.
use Rattle.std.specs.Prelude.{ℕ, suc, ◌==◌, nat_le, Bool, ◌&&◌, ◌||◌, if◌then◌else◌, List, [], ◌∷◌, length, drop}
use Rattle.std.specs.Str.{bytes_eq}
use Rattle.ps_warnings.specs.declared.near_words.TheConstants.{LEAST_FOR_TWO}

-- how many bytes both words begin with
abbrev pub common : List ℕ → List ℕ → ℕ
common [] other = 0
common (byte ∷ word) [] = 0
common (byte ∷ word) (first ∷ other) = if byte == first then suc (common word other) else 0

-- the one is the other but for a first byte, which is another, or which one of them lacks
abbrev pub are_apart : List ℕ → List ℕ → Bool
are_apart rest other =
    bytes_eq (drop 1 rest) (drop 1 other) || (bytes_eq (drop 1 rest) other || bytes_eq rest (drop 1 other))

-- one edit at most makes one of the other
abbrev pub is_one_away : List ℕ → List ℕ → Bool
is_one_away word other = are_apart (drop (common word other) word) (drop (common word other) other)

-- where two words differ at once, an edit there leaves words that one more makes alike
abbrev pub are_two_apart : List ℕ → List ℕ → Bool
are_two_apart rest other =
    is_one_away (drop 1 rest) (drop 1 other)
    || (is_one_away (drop 1 rest) other || is_one_away rest (drop 1 other))

-- two edits at most make one of the other
abbrev pub is_two_away : List ℕ → List ℕ → Bool
is_two_away word other = are_two_apart (drop (common word other) word) (drop (common word other) other)

-- a word is written much like another: by one edit, or by two, if it is long enough for that
abbrev pub is_near : List ℕ → List ℕ → Bool
is_near word other =
    is_one_away word other || (nat_le LEAST_FOR_TWO (length word) && is_two_away word other)
