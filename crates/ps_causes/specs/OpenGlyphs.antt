-- Characters of a row that may be any of several objects.
use Rattle.std.specs.Prelude.{◌≡◌, ◌≤◌, ◌-◌, ℕ, true, Option, Some, IfSome, List, length, slice_get, encode_utf8}
use Rattle.std.specs.Str.{chars}
use Rattle.ps_model.specs.declared.pieces.ObjectId.{ObjectId}
use Rattle.ps_model.specs.names.Names.{Meaning, One, meaning_of, members_if, is_among}
use Rattle.ps_text.specs.declared.cutting.Word.{Word}
use Rattle.ps_facts.specs.declared.names.Named.{Named}
use Rattle.ps_facts.specs.Declarations.{IsDeclaredAt}
use Rattle.ps_facts.specs.LineWords.{IsWordOf}
use Rattle.ps_causes.specs.declared.causes.OpenName.{OpenName}
use Rattle.ps_causes.specs.Meant.{names_in, is_property_at}

-- the text declares the name, and it is that of an object of the meaning
pub record IsNameIn (text : List ℕ) (meaning : Option Meaning) (name : Named) : Type 0 where
  pub declared_there : IsDeclaredAt text name.line name.name.now
  pub object : ObjectId
  pub named : meaning_of (names_in text) name.name.now ≡ Some (One object)
  pub among : is_among (members_if meaning) object ≡ true

-- the meaning is the property that the line declares. These are the number of its objects, and names of two of them
pub record IsOpenName (text : List ℕ) (meaning : Option Meaning) (open_name : OpenName) : Type 0 where
  pub property : is_property_at open_name.declared meaning ≡ true
  pub counted : open_name.count ≡ length (members_if meaning)
  pub true_first : IsNameIn text meaning open_name.first
  pub true_second : IfSome open_name.second (IsNameIn text meaning)

-- a character of a row, by its column from 1. The row is a word of the line, and the character may be any of several
-- objects
pub record IsOpenGlyph (text : List ℕ) (line : ℕ) (row : Word) (character column : ℕ) (open_name : OpenName) :
    Type 0 where
  pub stands : IsWordOf text line row
  pub counted : 1 ≤ column
  pub place : slice_get (chars row.text.now) (column - 1) ≡ Some character
  pub true_name : IsOpenName text (meaning_of (names_in text) (encode_utf8 character)) open_name
