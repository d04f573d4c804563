-- What the words of a rule stand for, by the names that the text declares.
use Rattle.std.specs.Prelude.{ℕ, nat_eq, Bool, true, false, ◌&&◌, not, if◌then◌else◌, Option, None, Some, List}
use Rattle.std.specs.List.{list_any}
use Rattle.ps_model.specs.declared.pieces.ObjectId.{ObjectId}
use Rattle.ps_model.specs.declared.texts.Section.TheVariants.{Objects, Legend, Layers}
use Rattle.ps_model.specs.names.Names.{Meaning, One, AllOf, AnyOf, Names, meaning_of, layer_of, members_if}
use Rattle.ps_model.specs.names.Names.{is_among}
use Rattle.ps_model.specs.names.Meanings.{is_property}
use Rattle.ps_model.specs.names.NamesRead.{names_read}
use Rattle.ps_model.specs.text.Lines.{lines_of}
use Rattle.ps_model.specs.text.Sections.{section_lines}
use Rattle.ps_facts.specs.KeyWords.{is_key_word}
use Rattle.ps_facts.specs.Signs.{is_same}

-- the names that a text declares
unfoldable pub names_in : List ℕ → Names
names_in text = names_read (section_lines (lines_of text) Objects) (section_lines (lines_of text) Legend)
    (section_lines (lines_of text) Layers)

-- what a word of a rule stands for; a key word stands for nothing
abbrev pub meant : Names → List ℕ → Option Meaning
meant names word = if is_key_word word then None else meaning_of names word

-- it is the property that the line declares
abbrev pub is_property_at : ℕ → Option Meaning → Bool
is_property_at line None = false
is_property_at line (Some (One object)) = false
is_property_at line (Some (AllOf declared objects)) = false
is_property_at line (Some (AnyOf declared objects)) = nat_eq declared line

-- it is the aggregate that the line declares
abbrev pub is_aggregate_at : ℕ → Option Meaning → Bool
is_aggregate_at line None = false
is_aggregate_at line (Some (One object)) = false
is_aggregate_at line (Some (AllOf declared objects)) = nat_eq declared line
is_aggregate_at line (Some (AnyOf declared objects)) = false

-- it is that object, or several at once with it
abbrev pub has_object : ObjectId → Option Meaning → Bool
has_object object meaning = not (is_property meaning) && is_among (members_if meaning) object

-- one of its objects lies on the layer
abbrev pub lies_on : Names → ℕ → Option Meaning → Bool
lies_on names layer meaning = list_any (λ object. nat_eq (layer_of names object) layer) (members_if meaning)

-- it is one property with what a meaning is
abbrev pub is_one_property : Option Meaning → Option Meaning → Bool
is_one_property None other = false
is_one_property (Some (One object)) other = false
is_one_property (Some (AllOf line objects)) other = false
is_one_property (Some (AnyOf line objects)) other = is_property_at line other

-- two words of a rule are one word, or stand for one property
abbrev pub are_alike : Names → List ℕ → List ℕ → Bool
are_alike names word other = if is_same word other then true else is_one_property (meant names word) (meant names other)
