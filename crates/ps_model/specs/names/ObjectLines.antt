-- The objects of OBJECTS. An object has a name line: its name, and after it a second name of one character where it
-- has one. Right below stand its colours, in a line that isn't blank, and right below these the five rows of its
-- sprite, where it has one. Blank lines stand between objects and may be left out.
use Rattle.std.specs.Prelude.{ℕ, zero, suc, ◌==◌, nat_le, Bool, true, false, ◌&&◌, ◌||◌, if◌then◌else◌, Option, None}
use Rattle.std.specs.Prelude.{Some, is_some, List, [], ◌∷◌, length, map, flat_map, take}
use Rattle.std.specs.List.{list_all, prefix_len, enumerate_from}
use Rattle.std.specs.Str.{chars}
use Rattle.ps_model.specs.declared.pieces.ObjectId.{ObjectId}
use Rattle.ps_model.specs.text.Lines.{Line, is_blank_line, words_of_line}

-- an object as it is written
pub record ObjectText : Type 0 where
  -- the number of its name line
  pub line : ℕ
  -- the words of its name line: its names
  pub words : List (List ℕ)
  -- how many lines right below are its own: none where its colours are missing, one for them, and one for each sprite
  -- row
  pub below : ℕ

-- sprites -------------------------------------------------------------------------------------------------------------

-- sprites are drawn with points and digits
abbrev pub is_sprite_byte : ℕ → Bool
is_sprite_byte byte = byte == 46 || (nat_le 48 byte && nat_le byte 57)

-- five of them in one word
abbrev pub is_sprite_word : List ℕ → Bool
is_sprite_word word = length word == 5 && list_all is_sprite_byte word

-- a row of a sprite is a line of one such word
abbrev pub is_sprite_row : Line → Bool
is_sprite_row line = let words : List (List ℕ) = words_of_line line in length words ==
    1 && list_all is_sprite_word words

-- how many rows of a sprite stand on top of these lines, five at most
abbrev pub sprite_rows : List Line → ℕ
sprite_rows lines = prefix_len is_sprite_row (take 5 lines)

-- objects -------------------------------------------------------------------------------------------------------------

-- how many of the lines below a name line belong to its object
abbrev pub lines_below : List Line → ℕ
lines_below [] = 0
lines_below (colours ∷ others) = if is_blank_line colours then 0 else suc (sprite_rows others)

-- the objects of lines of which the first `above` belong to the object above
abbrev pub objects_below : ℕ → List Line → List ObjectText
objects_below above [] = []
objects_below (suc above) (line ∷ others) = objects_below above others
objects_below zero (line ∷ others) = elim (is_blank_line line) [
  | true ↦ objects_below 0 others
  | false ↦
      let below : ℕ = lines_below others in
      record { line = line.number; words = words_of_line line; below = below } ∷ objects_below below others
]

-- the objects of OBJECTS, in order of declaration
abbrev pub object_texts : List Line → List ObjectText
object_texts lines = objects_below 0 lines

-- names ---------------------------------------------------------------------------------------------------------------

-- the one of a list of one
abbrev pub only : List ℕ → Option ℕ
only [] = None
only (character ∷ []) = Some character
only (character ∷ next ∷ others) = None

-- the character of a name of one character
abbrev pub one_character : List ℕ → Option ℕ
one_character name = only (chars name)

-- a name line has a name, and may have a second name of one character
abbrev pub names_well : List (List ℕ) → Bool
names_well [] = false
names_well (name ∷ []) = true
names_well (name ∷ second ∷ []) = is_some (one_character second)
names_well (name ∷ second ∷ third ∷ others) = false

-- an object has its colours alone, or its colours and a whole sprite
abbrev pub is_whole : ObjectText → Bool
is_whole object = object.below == 1 || object.below == 6

-- a name of an object
abbrev pub name_of : ObjectId → List ℕ → List ℕ × ObjectId
name_of object name = (name, object)

-- the names that the object of a number declares
abbrev pub names_of_object : ℕ × ObjectText → List (List ℕ × ObjectId)
names_of_object numbered = map (name_of (record { 0 = numbered.0 })) numbered.1.words

-- the names of the objects as they are written, each with its object; objects are numbered in order of declaration
abbrev pub object_names : List ObjectText → List (List ℕ × ObjectId)
object_names objects = flat_map names_of_object (enumerate_from 0 objects)
