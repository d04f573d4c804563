-- No description has a number with a point: so its text is the compact one.
use Rattle.std.proofs.Common.{◌≡◌, ℕ, false, List, [], ◌∷◌, map, refl}
use Rattle.std.specs.Prelude.{encode_utf8}
use Rattle.std.specs.List.{flat_map}
use Rattle.ps_model.specs.declared.pieces.ObjectId.{ObjectId}
use Rattle.ps_model.specs.names.Names.{Glyph, Names, members}
use Rattle.ps_model.specs.game.Games.{Game}
use Rattle.ps_facts.specs.Declarations.{Declared}
use Rattle.serde_json.specs.Data.{Data, string}
use Rattle.serde_json.specs.View.{items_of}
use Rattle.serde_json.specs.Written.{has_float, items_have_float}
use Rattle.ps_describe.specs.Descriptions.{description, glyph_told, ignored_keys, level_count, name_told, object_with}
use Rattle.ps_describe.specs.Descriptions.{objects_without_glyph, player_characters}

-- of words
words_plain : (words : List (List ℕ)) → items_have_float (items_of (map string words)) ≡ false
words_plain [] = refl
words_plain (word ∷ words) = words_plain words

-- of names of objects
names_plain : (names : Names) (declared : List Declared) (objects : List ObjectId) →
    items_have_float (items_of (map (name_told names declared) objects)) ≡ false
names_plain names declared [] = refl
names_plain names declared (object ∷ objects) = names_plain names declared objects

-- of glyphs
glyphs_plain : (names : Names) (declared : List Declared) (glyphs : List Glyph) →
    items_have_float (items_of (map (glyph_told names declared) glyphs)) ≡ false
glyphs_plain names declared [] = refl
glyphs_plain names declared (glyph ∷ glyphs) =
    rw (names_plain names declared (members glyph.meaning), glyphs_plain names declared glyphs) refl

-- what is made of the parts of a description is it
pub described_by : (read : Game) (declared : List Declared) (glyphs ignored : List Data) (levels : ℕ)
    (players title : List ℕ) (unshown : List Data) (told : Data) →
    told ≡ object_with glyphs ignored levels players title unshown →
    glyphs ≡ map (glyph_told read.names declared) read.names.glyphs → ignored ≡ map string (ignored_keys read.options) →
    levels ≡ level_count read → players ≡ flat_map encode_utf8 (player_characters read.names) → title ≡ read.title →
    unshown ≡ map (name_told read.names declared) (objects_without_glyph read.names) →
    told ≡ description read declared
unfolding description
described_by read declared glyphs ignored levels players title unshown told is a b c d e f =
    rw (is, a, b, c, d, e, f) refl

-- of all
pub description_plain : (read : Game) (declared : List Declared) → has_float (description read declared) ≡ false
unfolding description
description_plain read declared =
    rw (
      glyphs_plain read.names declared read.names.glyphs,
      words_plain (ignored_keys read.options),
      names_plain read.names declared (objects_without_glyph read.names),
    ) refl
