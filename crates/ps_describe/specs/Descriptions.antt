-- What a front end needs to know of a game, as JSON: its title, how many levels it has, which keys it ignores, what each
-- glyph stands for, which glyphs show a Player, and which objects no glyph shows.
use Rattle.std.specs.Prelude.{◌≡◌, ℕ, Bool, false, Option, Some, None, List, [], ◌∷◌, ◌++◌, if◌then◌else◌, length}
use Rattle.std.specs.Prelude.{map, filter, find, codes, encode_utf8, not, ◌&&◌}
use Rattle.std.specs.List.{list_all, list_any, flat_map, range_with_len}
use Rattle.ps_model.specs.declared.options.Options.{Options}
use Rattle.ps_model.specs.declared.pieces.ObjectId.{ObjectId}
use Rattle.ps_model.specs.names.Names.{Meaning, One, AllOf, AnyOf, Glyph, Names, is_among, meaning_of, members, players}
use Rattle.ps_model.specs.names.Names.{object_count, same_object}
use Rattle.ps_model.specs.session.Sessions.{is_level}
use Rattle.ps_model.specs.game.Games.{Game, game}
use Rattle.ps_facts.specs.Declarations.{Declared, declared}
use Rattle.serde_json.specs.Data.{Data, number, unsigned, string, array, object, member, no_members}
use Rattle.serde_json.specs.View.{items_of}
use Rattle.serde_json.specs.Written.{compact_text}

-- Player --------------------------------------------------------------------------------------------------------------

-- a glyph shows an object of Player, alone or with others
abbrev pub shows_player : Names → Glyph → Bool
shows_player names glyph = list_any (is_among (players names)) (members glyph.meaning)

-- the characters of the glyphs that do
abbrev pub player_characters : Names → List ℕ
player_characters names = map (λ glyph. glyph.character) (filter (shows_player names) names.glyphs)

-- names of objects ----------------------------------------------------------------------------------------------------

-- a meaning is that object, alone
abbrev pub is_object : ObjectId → Option Meaning → Bool
is_object wanted None = false
is_object wanted (Some (One other)) = same_object other wanted
is_object wanted (Some (AllOf line others)) = false
is_object wanted (Some (AnyOf line others)) = false

-- a name stands for that object, alone
abbrev pub stands_for : Names → ObjectId → List ℕ → Bool
stands_for names wanted name = is_object wanted (meaning_of names name)

-- the name that was declared, if there is one
abbrev pub name_if : Option Declared → List ℕ
name_if None = []
name_if (Some each) = each.name

-- what an object is called: the first declared name that stands for it alone, as it is written
abbrev pub name_of_object : Names → List Declared → ObjectId → List ℕ
name_of_object names names_declared wanted = name_if (find (λ each. stands_for names wanted each.name) names_declared)

-- JSON ----------------------------------------------------------------------------------------------------------------

-- what an object is called, as JSON
abbrev pub name_told : Names → List Declared → ObjectId → Data
name_told names names_declared wanted = string (name_of_object names names_declared wanted)

-- a glyph, and what the objects are called that it shows
abbrev pub glyph_told : Names → List Declared → Glyph → Data
glyph_told names names_declared glyph =
    object (member (codes "glyph") (string (encode_utf8 glyph.character))
    (member (codes "objects") (array (items_of (map (name_told names names_declared) (members glyph.meaning))))
    no_members))

-- objects without a glyph ---------------------------------------------------------------------------------------------

-- an object is that one
abbrev pub is_that : ObjectId → ObjectId → Bool
is_that wanted other = same_object other wanted

-- a glyph shows that object and no other
abbrev pub shows_alone : ObjectId → Glyph → Bool
shows_alone wanted glyph = list_all (is_that wanted) (members glyph.meaning) && is_among (members glyph.meaning) wanted

-- no glyph does
abbrev pub lacks_glyph : Names → ObjectId → Bool
lacks_glyph names wanted = not (list_any (shows_alone wanted) names.glyphs)

-- the object of that number
abbrev pub object_of : ℕ → ObjectId
object_of place = record { 0 = place }

-- the objects that no glyph shows alone, by their numbers
abbrev pub objects_without_glyph : Names → List ObjectId
objects_without_glyph names = filter (lacks_glyph names) (map object_of (range_with_len 0 (object_count names)))

-- words ---------------------------------------------------------------------------------------------------------------

-- a word, if it is to be told
abbrev pub word_if : Bool → List ℕ → List (List ℕ)
word_if told word = if told then word ∷ [] else []

-- the keys that a game ignores
abbrev pub ignored_keys : Options → List (List ℕ)
ignored_keys options =
    word_if options.no_action (codes "act") ++ (word_if options.no_undo (codes "undo")
    ++ word_if options.no_restart (codes "restart"))

-- how many levels it has; messages aren't counted
abbrev pub level_count : Game → ℕ
level_count read = length (filter is_level read.entries)

-- an object with these parts. The members of an object are in the order of their names
abbrev pub object_with : List Data → List Data → ℕ → List ℕ → List ℕ → List Data → Data
object_with glyphs ignored levels player_glyphs title without_glyph =
    object (member (codes "glyphs") (array (items_of glyphs))
    (member (codes "ignored_keys") (array (items_of ignored))
    (member (codes "levels") (number (unsigned levels))
    (member (codes "player_glyphs") (string player_glyphs)
    (member (codes "title") (string title)
    (member (codes "without_glyph") (array (items_of without_glyph)) no_members))))))

-- all of it
unfoldable pub description : Game → List Declared → Data
description read names_declared =
    object_with (map (glyph_told read.names names_declared) read.names.glyphs) (map string (ignored_keys read.options))
    (level_count read) (flat_map encode_utf8 (player_characters read.names)) read.title
    (map (name_told read.names names_declared) (objects_without_glyph read.names))

-- the line on a text that is a game
abbrev pub description_line : List ℕ → Game → List ℕ
description_line text read = compact_text (description read (declared text)) ++ codes "\n"

-- a line is that on a text, which is a game
abbrev pub IsDescribed : List ℕ → List ℕ → Type 0
IsDescribed text line = (read : Game) × (game text ≡ Some read) × (line ≡ description_line text read)

-- a text is a game with these options, of which these characters show a Player
pub record HasFacts (text : List ℕ) (characters : List ℕ) (options : Options) : Type 0 where
  pub read : Game
  pub is_game : game text ≡ Some read
  pub shows : characters ≡ player_characters read.names
  pub heeds : options ≡ read.options
