-- What is written: lines, and frames, which show the board row by row from the top.
use Rattle.std.specs.Prelude.{option_to_list, slice_get, length, ℕ, ◌+◌, ◌-◌, ◌*◌, Bool, ◌&&◌, not, Option, Some, None}
use Rattle.std.specs.Prelude.{List, ◌++◌, find, filter, codes, encode_utf8}
use Rattle.std.specs.List.{list_all, flat_map, filter_map, range_with_len}
use Rattle.ps_model.specs.declared.pieces.ObjectId.{ObjectId}
use Rattle.ps_model.specs.declared.pieces.Slot.{Slot}
use Rattle.ps_model.specs.names.Names.{Glyph, Names, is_among, members}
use Rattle.ps_model.specs.board.Levels.{is_ground}
use Rattle.ps_model.specs.board.Grid.{Grid, cell_at, object_in}

-- a line: a mark, a text and a line feed
abbrev pub written_line : List ℕ → List ℕ → List ℕ
written_line mark text = mark ++ (text ++ codes "\n")

-- the objects of a cell, the lowest layer first
abbrev pub objects_in : List Slot → List ObjectId
objects_in cell = filter_map object_in cell

-- the lists have the same objects
abbrev pub same_objects : List ObjectId → List ObjectId → Bool
same_objects first second = list_all (is_among second) first && list_all (is_among first) second

-- the first glyph that shows just these objects
abbrev pub glyph_for : Names → List ObjectId → Option Glyph
glyph_for names objects = find (λ glyph. same_objects (members glyph.meaning) objects) names.glyphs

-- the object on the topmost occupied layer, alone: the last of a cell's objects
abbrev pub topmost : List ObjectId → List ObjectId
topmost objects = option_to_list (slice_get objects (length objects - 1))

-- the first of three glyphs that is there
abbrev pub first_of_three : Option Glyph → Option Glyph → Option Glyph → Option Glyph
first_of_three (Some glyph) second third = Some glyph
first_of_three None (Some glyph) third = Some glyph
first_of_three None None third = third

-- the glyph of a cell with these objects: one for exactly them; else one for exactly them but for those of the
-- background layer; else one for the object on the topmost occupied layer alone
abbrev pub glyph_of_objects : Names → List ObjectId → Option Glyph
glyph_of_objects names objects =
    first_of_three (glyph_for names objects) (glyph_for names
    (filter (λ object. not (is_ground names object)) objects)) (glyph_for names (topmost objects))

-- the character of a glyph; of none, `?`
abbrev pub character_of : Option Glyph → ℕ
character_of None = 63
character_of (Some glyph) = glyph.character

-- the character that shows a cell
abbrev pub shown_character : Names → List Slot → ℕ
shown_character names cell = character_of (glyph_of_objects names (objects_in cell))

-- a row of a frame
abbrev pub frame_row : Names → Grid → ℕ → List ℕ
frame_row names g row = flat_map (λ column. encode_utf8 (shown_character names (cell_at g (column * g.height + row))))
    (range_with_len 0 g.width) ++ codes "\n"

-- a frame: the rows from the top, then an empty line
abbrev pub frame : Names → Grid → List ℕ
frame names g = flat_map (frame_row names g) (range_with_len 0 g.height) ++ codes "\n"
