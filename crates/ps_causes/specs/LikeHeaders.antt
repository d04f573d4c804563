-- Lines that are written much like the header of a section.
use Rattle.std.specs.Prelude.{◌≡◌, ◌⊎◌, ℕ, false, true, if◌then◌else◌, List, [], ◌∷◌, codes, slice_index_or}
use Rattle.std.specs.Char.{is_ascii_alphabetic, to_ascii_lowercase}
use Rattle.std.specs.List.{flat_map}
use Rattle.std.specs.Str.{bytes_eq}
use Rattle.ps_model.specs.declared.texts.Cut.TheVariants.{Blanks}
use Rattle.ps_model.specs.declared.texts.Section.{Section}
use Rattle.ps_model.specs.declared.texts.Section.TheVariants.{Prelude, Objects, Legend, Sounds, Layers, Rules, Wins}
use Rattle.ps_model.specs.declared.texts.Section.TheVariants.{Levels}
use Rattle.ps_model.specs.text.LineNumbers.{line_at, HasLine}
use Rattle.ps_model.specs.text.Lines.{folded}
use Rattle.ps_text.specs.WordViews.{texts_under}
use Rattle.ps_facts.specs.Near.{AreWithinOne, AreWithinTwo}

-- the word of a section's header
abbrev pub header_word : Section → List ℕ
header_word Prelude = []
header_word Objects = codes "objects"
header_word Legend = codes "legend"
header_word Sounds = codes "sounds"
header_word Layers = codes "collisionlayers"
header_word Rules = codes "rules"
header_word Wins = codes "winconditions"
header_word Levels = codes "levels"

-- a byte in lower case, where it is an ASCII letter
abbrev pub letter : ℕ → List ℕ
letter byte = if is_ascii_alphabetic byte then to_ascii_lowercase byte ∷ [] else []

-- the ASCII letters of a word, in lower case
abbrev pub letters : List ℕ → List ℕ
letters word = flat_map letter word

-- those of words, one after the other
abbrev pub letters_of : List (List ℕ) → List ℕ
letters_of words = flat_map letters words

-- one edit at most makes one of the other, or two do
abbrev pub AreNearly : List ℕ → List ℕ → Type 0
AreNearly word other = AreWithinOne word other ⊎ AreWithinTwo word other

-- words are written much like a header: its word stands first, or one or two edits make it of their letters
abbrev pub AreLike : List (List ℕ) → List ℕ → Type 0
AreLike words header =
    (bytes_eq (folded (slice_index_or words 0 [])) (folded header) ≡ true)
    ⊎ AreNearly (folded (letters_of words)) (folded header)

-- a line of the text is no header, but written much like one of that word
pub record IsLikeHeaderOf (text : List ℕ) (header : List ℕ) (line : ℕ) : Type 0 where
  pub there : HasLine text line
  pub no_header : (line_at text line).is_header ≡ false
  pub like : AreLike (texts_under Blanks (line_at text line).bytes) header
