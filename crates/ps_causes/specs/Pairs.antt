-- Two names of one cell that can't stand there together.
use Rattle.std.specs.Prelude.{◌≡◌, ◌<◌, ◌+◌, ℕ, Bool, true, Some, ◌&&◌, not, Option, List, ◌∷◌, ◌++◌, length, map, take}
use Rattle.std.specs.Prelude.{drop, get_or}
use Rattle.ps_model.specs.declared.pieces.ObjectId.{ObjectId}
use Rattle.ps_model.specs.names.Names.{Meaning, One, meaning_of}
use Rattle.ps_text.specs.WordViews.{text_of}
use Rattle.ps_text.specs.declared.cutting.Word.{Word}
use Rattle.ps_facts.specs.declared.names.Named.{Named}
use Rattle.ps_facts.specs.Declarations.{IsDeclaredAt}
use Rattle.ps_facts.specs.LayerWords.{IsLayerLine}
use Rattle.ps_facts.specs.LineWords.{IsWordOf, texts_of}
use Rattle.ps_facts.specs.Places.{is_inside, are_parted, is_barred}
use Rattle.ps_causes.specs.declared.causes.Shared.{Shared}
use Rattle.ps_causes.specs.declared.causes.Shared.TheVariants.{Object, Property, Layer}
use Rattle.ps_causes.specs.Meant.{names_in, meant, is_property_at, has_object, lies_on}

-- with words before a name of a rule, and others between it and a further one: the two stand in one cell, and neither
-- after `no`
abbrev pub are_in_one_cell : List (List ℕ) → List (List ℕ) → Bool
are_in_one_cell before between =
    is_inside before && (not (are_parted between) && (not (is_barred before) && not (is_barred between)))

-- two names of a rule are that object, or several at once with it; and that is the object's name
pub record IsSharedObject (text : List ℕ) (first second : Option Meaning) (name : Named) : Type 0 where
  pub declared_there : IsDeclaredAt text name.line name.name.now
  pub object : ObjectId
  pub named : meaning_of (names_in text) name.name.now ≡ Some (One object)
  pub in_first : has_object object first ≡ true
  pub in_second : has_object object second ≡ true

-- two names of a rule have objects of one layer, that of the line
pub record IsSharedLayer (text : List ℕ) (first second : Option Meaning) (line : ℕ) : Type 0 where
  pub layer : ℕ
  pub there : IsLayerLine text layer line
  pub on_first : lies_on (names_in text) layer first ≡ true
  pub on_second : lies_on (names_in text) layer second ≡ true

-- what two names share that stand for this
abbrev pub IsShared : List ℕ → Option Meaning → Option Meaning → Shared → Type 0
IsShared text first second (Object name) = IsSharedObject text first second name
IsShared text first second (Property line) = (is_property_at line first ≡ true) × (is_property_at line second ≡ true)
IsShared text first second (Layer line) = IsSharedLayer text first second line

-- what two words of a rule share
abbrev pub DoShare : List ℕ → List ℕ → List ℕ → Shared → Type 0
DoShare text first second shared = IsShared text (meant (names_in text) first) (meant (names_in text) second) shared

-- a word of the list stands in one cell with another one after it, and the two share that
pub record IsPairIn (text : List ℕ) (words : List Word) (other word : Word) (shared : Shared) : Type 0 where
  pub place : ℕ
  pub within : place < length words
  pub here : other ≡ get_or words place other
  pub at : ℕ
  pub behind : at < length (drop (place + 1) words)
  pub there : word ≡ get_or (drop (place + 1) words) at word
  pub one_cell :
      are_in_one_cell (map text_of (take place words)) (map text_of (take at (drop (place + 1) words))) ≡ true
  pub true_share : DoShare text other.text.now word.text.now shared

-- a word of a line with another one before it in its cell, and what the two share
pub record IsPair (text : List ℕ) (line : ℕ) (word other : Word) (shared : Shared) : Type 0 where
  pub stands : IsWordOf text line word
  pub other_stands : IsWordOf text line other
  pub before : List (List ℕ)
  pub between : List (List ℕ)
  pub behind : List (List ℕ)
  pub parts : texts_of text line ≡ before ++ other.text.now ∷ (between ++ word.text.now ∷ behind)
  pub one_cell : are_in_one_cell before between ≡ true
  pub true_share : DoShare text other.text.now word.text.now shared
