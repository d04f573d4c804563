-- Entries of LEVELS and their faults, worked by hand. The header stands in line 1, so the first line below it is line
-- 2.
use Rattle.std.proofs.Common.{◌≡◌, ℕ, List, [], ◌∷◌, ◌++◌, map, refl, Option, Some, None}
use Rattle.std.specs.Prelude.{codes, replicate}
use Rattle.std.specs.List.{flat_map, range_with_len}
use Rattle.std.specs.Str.{chars}
use Rattle.std.proofs.Math.Utf8.{encode}
use Rattle.ps_model.specs.declared.pieces.ObjectId.{ObjectId}
use Rattle.ps_model.specs.declared.texts.Section.TheVariants.{Levels}
use Rattle.ps_model.specs.declared.faults.Fault.{Fault}
use Rattle.ps_model.specs.declared.faults.FaultKind.{FaultKind}
use Rattle.ps_model.specs.declared.faults.FaultKind.TheVariants.{UnknownGlyph, PropertyGlyph, TooLarge, NoLevel, TooManyEntries}
use Rattle.ps_model.specs.text.Faults.{first_fault}
use Rattle.ps_model.specs.text.Lines.{lines_of}
use Rattle.ps_model.specs.text.Sections.{section_lines, header_number}
use Rattle.ps_model.specs.names.Names.{Names, One, AllOf, AnyOf}
use Rattle.ps_model.specs.session.LevelLines.{Entry, MessageEntry, LevelEntry, entry_lines, entries_read}
use Rattle.ps_model.specs.session.LevelFaults.{entries_faults, level_faults}

abbrev object : ℕ → ObjectId
object number = record { 0 = number }

-- the names of OBJECTS `Background .`, `Player P`, `Crate *`, `Target O`, `Grass` with the glyph e acute, and LEGEND
-- `@ = Crate and Target`, `Q = Player or Crate`, `# = Crate`, `% = Q`; the grass lies on the layer of Background
abbrev names : Names
names = record {
  entries =
      (codes "background", One (object 0)) ∷ (codes ".", One (object 0)) ∷ (codes "player", One (object 1)) ∷ (codes "p", One (object 1))
      ∷ (codes "crate", One (object 2)) ∷ (codes "*", One (object 2)) ∷ (codes "target", One (object 3)) ∷ (codes "o", One (object 3))
      ∷ (codes "grass", One (object 4)) ∷ (195 ∷ 169 ∷ [], One (object 4)) ∷ (codes "@", AllOf 12 (object 2 ∷ object 3 ∷ []))
      ∷ (codes "q", AnyOf 13 (object 1 ∷ object 2 ∷ [])) ∷ (codes "#", One (object 2)) ∷ (codes "%", AnyOf 13 (object 1 ∷ object 2 ∷ [])) ∷ [];
  layers = 0 ∷ 2 ∷ 2 ∷ 1 ∷ 0 ∷ [];
  layer_count = 3;
  glyphs = [];
}

-- the entries and the first fault of LEVELS with these bytes below the header
abbrev entries : List ℕ → List Entry
entries rows = entries_read names (section_lines (lines_of (codes "LEVELS\n" ++ rows)) Levels)

abbrev first : List ℕ → Option Fault
first rows = let lines : _ = lines_of (codes "LEVELS\n" ++ rows) in first_fault (level_faults names (header_number lines Levels) (section_lines lines Levels))

abbrev at_line : ℕ → FaultKind → Option Fault
at_line line kind = Some (record { kind = kind; line = line })

-- a level of those sides, with these objects in its cells
abbrev level : ℕ → ℕ → List (List ℕ) → Entry
level width height cells = LevelEntry (record { width = width; height = height; cells = map (map object) cells })

-- cells ------------------------------------------------------------------------------------------------------------------

-- columns from the left, each from the top; a cell without background gets it after its own objects; an aggregate
-- shows all its objects, a synonym its object
cells_in_columns : entries (codes "P@\n.#\n") ≡ level 2 2 ((1 ∷ 0 ∷ []) ∷ (0 ∷ []) ∷ (2 ∷ 3 ∷ 0 ∷ []) ∷ (2 ∷ 0 ∷ []) ∷ []) ∷ []
unfolding chars encode
cells_in_columns = refl

-- letters of rows are folded as names are
folded_letters : entries (codes "po") ≡ entries (codes "PO")
unfolding chars encode
folded_letters = refl

-- rows are trimmed
trimmed : entries (codes "  .P \t\n\t.P\r\n") ≡ entries (codes ".P\n.P")
unfolding chars encode
trimmed = refl

-- a shorter row is filled with its own last character; characters past the width of the first row are ignored
filled : entries (codes "...\nPO\nP.*O") ≡ entries (codes "...\nPOO\nP.*")
unfolding chars encode
filled = refl

-- a character of several bytes is one cell
wide_character : entries (195 ∷ 169 ∷ codes ".\n.") ≡ level 2 2 ((4 ∷ []) ∷ (0 ∷ []) ∷ (0 ∷ []) ∷ (0 ∷ []) ∷ []) ∷ []
unfolding chars encode
wide_character = refl

-- whatever object of the background layer is met first is the ground of cells without one, a Background or not
grass_as_ground : entries (195 ∷ 169 ∷ codes "P.") ≡ level 3 1 ((4 ∷ []) ∷ (1 ∷ 4 ∷ []) ∷ (0 ∷ []) ∷ []) ∷ []
unfolding chars encode
grass_as_ground = refl

-- the ground of a cell is the first object of the background layer that is met, column by column
abbrev two_grounds : Names
two_grounds = record {
  entries =
      (codes "grass", One (object 0)) ∷ (codes "g", One (object 0)) ∷ (codes "sand", One (object 1)) ∷ (codes "s", One (object 1)) ∷ (codes "player", One (object 2))
      ∷ (codes "p", One (object 2)) ∷ (codes "background", AnyOf 9 (object 0 ∷ object 1 ∷ [])) ∷ [];
  layers = 0 ∷ 0 ∷ 1 ∷ [];
  layer_count = 2;
  glyphs = [];
}

abbrev on_grounds : List ℕ → List Entry
on_grounds rows = entries_read two_grounds (section_lines (lines_of (codes "LEVELS\n" ++ rows)) Levels)

first_ground : on_grounds (codes "PsP") ≡ level 3 1 ((2 ∷ 1 ∷ []) ∷ (1 ∷ []) ∷ (2 ∷ 1 ∷ []) ∷ []) ∷ []
unfolding chars encode
first_ground = refl

first_in_columns : on_grounds (codes "Pg\nsP") ≡ level 2 2 ((2 ∷ 1 ∷ []) ∷ (1 ∷ []) ∷ (0 ∷ []) ∷ (2 ∷ 1 ∷ []) ∷ []) ∷ []
unfolding chars encode
first_in_columns = refl

-- each level has its own ground; without one that is met it is Background, its first object where it is a property
own_ground : on_grounds (codes "Ps\n\nP") ≡ level 2 1 ((2 ∷ 1 ∷ []) ∷ (1 ∷ []) ∷ []) ∷ level 1 1 ((2 ∷ 0 ∷ []) ∷ []) ∷ []
unfolding chars encode
own_ground = refl

-- entries ----------------------------------------------------------------------------------------------------------------

abbrev one_player : Entry
one_player = level 1 1 ((1 ∷ 0 ∷ []) ∷ [])

abbrev two_players : Entry
two_players = level 1 2 ((1 ∷ 0 ∷ []) ∷ (1 ∷ 0 ∷ []) ∷ [])

-- blank lines part levels, as many as there are; around levels they mean nothing
parted_by_blanks : entries (codes "\n \nP\n\n\t\n\nP\nP\n\n") ≡ one_player ∷ two_players ∷ []
unfolding chars encode
parted_by_blanks = refl

-- a message ends a level, and a row right below it begins one
parted_by_message : entries (codes "P\nmessage Hi\nP\nP\n") ≡ one_player ∷ MessageEntry (codes "Hi") ∷ two_players ∷ []
unfolding chars encode
parted_by_message = refl

-- lines of `=`, comments and empty lines in a comment aren't there: they end no level
not_there : entries (codes "P\n== =\nP") ≡ two_players ∷ []
unfolding chars encode
not_there = refl

comment_between : entries (codes "P\n(a\n\nb)\nP\n") ≡ two_players ∷ []
unfolding chars encode
comment_between = refl

-- a comment reads as blanks
comment_beside : entries (codes "P (x)\n(xx)P") ≡ two_players ∷ []
unfolding chars encode
comment_beside = refl

-- the text of a message is taken as it stands, but for the blanks at its ends; the word is known in any case of
-- letters, and a comment may stand before it; a message may be empty, and `(` right after the word begins its text
messages : entries (codes "message Hello (World)\nMESSAGE  Two  words \n(x) Message (y\nmessage(a) b\nmessage")
    ≡ map MessageEntry (codes "Hello (World)" ∷ codes "Two  words" ∷ codes "(y" ∷ codes "(a) b" ∷ [] ∷ [])
unfolding chars encode
messages = refl

-- `messages` begins no message, it is a row
longer_word : first (codes "P\n\nmessages") ≡ at_line 4 UnknownGlyph
unfolding chars encode
longer_word = refl

-- faults -----------------------------------------------------------------------------------------------------------------

fine : first (codes "P.\n\nmessage ?\n@#\n") ≡ None
unfolding chars encode
fine = refl

unknown : first (codes "P.\nP?") ≡ at_line 3 UnknownGlyph
unfolding chars encode
unknown = refl

-- a name of several characters is no glyph of them
no_glyph : first (codes "R") ≡ at_line 2 UnknownGlyph
unfolding chars encode
no_glyph = refl

-- a blank within a row is no glyph, nor is a comment there
blank_within : first (codes "P .") ≡ at_line 2 UnknownGlyph
unfolding chars encode
blank_within = refl

comment_within : first (codes "P(x)P") ≡ at_line 2 UnknownGlyph
unfolding chars encode
comment_within = refl

-- a `)` outside comments is a character like others
closing : first (codes "P\n(x))") ≡ at_line 3 UnknownGlyph
unfolding chars encode
closing = refl

-- characters past the width aren't looked at
past_width : first (codes "P.\nP.?\nP q?") ≡ at_line 4 UnknownGlyph
unfolding chars encode
past_width = refl

property : first (codes "PQ") ≡ at_line 2 PropertyGlyph
unfolding chars encode
property = refl

-- a synonym of a property is a property
property_synonym : first (codes "P\n%") ≡ at_line 3 PropertyGlyph
unfolding chars encode
property_synonym = refl

unknown_first : first (codes "q?") ≡ at_line 2 UnknownGlyph
unfolding chars encode
unknown_first = refl

-- a first row of 256 characters is within the limit, one of 257 isn't; its characters come first; longer rows below
-- aren't too large
widest : first (replicate 256 46 ++ codes "\nP" ++ replicate 260 46) ≡ None
unfolding chars encode
widest = refl

too_wide : first (codes ".\n\n" ++ replicate 257 46) ≡ at_line 4 TooLarge
unfolding chars encode
too_wide = refl

unknown_before_wide : first (replicate 257 46 ++ codes "?") ≡ at_line 2 UnknownGlyph
unfolding chars encode
unknown_before_wide = refl

property_before_wide : first (codes "q" ++ replicate 64 46) ≡ at_line 2 PropertyGlyph
unfolding chars encode
property_before_wide = refl

-- `count` rows, each a point
abbrev points : ℕ → List ℕ
points count = flat_map (λ row. codes ".\n") (range_with_len 0 count)

-- 256 rows are within the limit; the 257th isn't
highest : first (points 256 ++ codes "\n" ++ points 256) ≡ None
unfolding chars encode
highest = refl

too_high : first (points 258) ≡ at_line 258 TooLarge
unfolding chars encode
too_high = refl

unknown_before_high : first (points 256 ++ codes "?\n.") ≡ at_line 258 UnknownGlyph
unfolding chars encode
unknown_before_high = refl

-- faults are told line by line
earlier_line : first (points 257 ++ codes "?") ≡ at_line 258 TooLarge
unfolding chars encode
earlier_line = refl

-- messages are no levels; that there is none is told at the header
no_level : first (codes "\nmessage P\n\n") ≡ at_line 1 NoLevel
unfolding chars encode
no_level = refl

below_nothing : first [] ≡ at_line 1 NoLevel
unfolding chars encode
below_nothing = refl

-- 999 entries are within the limit, messages and levels together; one more isn't, told at its first line
abbrev many : ℕ → List ℕ
many count = flat_map (λ row. codes "message\n") (range_with_len 0 count)

too_many : first (many 999 ++ codes "P\nP") ≡ at_line 1001 TooManyEntries
unfolding chars encode
too_many = refl

-- the first fault of entries after `place` others
abbrev first_behind : ℕ → List ℕ → Option Fault
first_behind place rows = first_fault (entries_faults names place (entry_lines (section_lines (lines_of (codes "LEVELS\n" ++ rows)) Levels)))

last_level : first_behind 998 (codes "P\nP") ≡ None
unfolding chars encode
last_level = refl

one_message_more : first_behind 998 (codes "P\nP\nmessage\nP\n") ≡ at_line 4 TooManyEntries
unfolding chars encode
one_message_more = refl

-- the other faults of that line come first, those of the lines below it don't
unknown_before_many : first_behind 999 (codes "?\nP") ≡ at_line 2 UnknownGlyph
unfolding chars encode
unknown_before_many = refl

many_before_unknown : first_behind 999 (codes "P\n?") ≡ at_line 2 TooManyEntries
unfolding chars encode
many_before_unknown = refl
