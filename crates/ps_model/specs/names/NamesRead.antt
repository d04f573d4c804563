-- The names of a game, as the sections OBJECTS, LEGEND and COLLISIONLAYERS declare them: the names of the objects
-- first, then those of the legend, each in order of declaration; and the layers. Where a section has a fault, what it
-- declares without that is read all the same.
use Rattle.std.specs.Prelude.{ℕ, Option, None, Some, option_map, unwrap_or, List, ◌++◌, length, map, filter_map, zip}
use Rattle.ps_model.specs.declared.pieces.ObjectId.{ObjectId}
use Rattle.ps_model.specs.declared.texts.Cut.TheVariants.{Legend, Layers}
use Rattle.ps_model.specs.text.Lines.{Line, folded}
use Rattle.ps_model.specs.text.WrittenLines.{WrittenLine, written_lines}
use Rattle.ps_model.specs.names.Names.{Meaning, One, AllOf, AnyOf, Glyph, Names}
use Rattle.ps_model.specs.names.ObjectLines.{ObjectText, object_texts, object_names, one_character}
use Rattle.ps_model.specs.names.LegendLines.{declarations}
use Rattle.ps_model.specs.names.Meanings.{LegendName, legend_names, legend_meanings}
use Rattle.ps_model.specs.names.LayerLines.{Layer, layers_of_lines, layers_found}

-- a name as it is written where it is declared, and what it stands for
pub record Declared : Type 0 where
  pub name : List ℕ
  pub meaning : Meaning

-- the three sections as they are read
pub record NameSections : Type 0 where
  pub objects : List ObjectText
  pub legend_lines : List WrittenLine
  pub legend : List LegendName
  -- what each name of the legend stands for
  pub meanings : List (Option Meaning)
  -- all names that stand for something
  pub declared : List Declared
  pub layers : List Layer
  -- the layer of each object, if one names it
  pub object_layers : List (Option ℕ)

-- names ---------------------------------------------------------------------------------------------------------------

-- the name of an object
abbrev pub object_declared : List ℕ × ObjectId → Declared
object_declared named = record { name = named.0; meaning = One named.1 }

-- a name of the legend; one that stands for nothing isn't declared
abbrev pub legend_declared : LegendName × Option Meaning → Option Declared
legend_declared named = option_map (λ meaning. record { name = named.0.name; meaning = meaning }) named.1

-- all names that stand for something
abbrev pub all_declared : List ObjectText → List LegendName → List (Option Meaning) → List Declared
all_declared objects legend meanings = map object_declared (object_names objects) ++ filter_map legend_declared
    (zip legend meanings)

-- a name is looked up with its letters folded
abbrev pub entry_of : Declared → List ℕ × Meaning
entry_of declared = (folded declared.name, declared.meaning)

-- all names with what they stand for
abbrev pub entries_of : List Declared → List (List ℕ × Meaning)
entries_of declared = map entry_of declared

-- sections ------------------------------------------------------------------------------------------------------------

-- the sections of these objects and lines
abbrev pub sections_of : List ObjectText → List WrittenLine → List WrittenLine → NameSections
sections_of objects legend_lines layer_lines =
    let legend : List LegendName = legend_names (object_names objects) (declarations legend_lines) in
    let meanings : List (Option Meaning) = legend_meanings legend in
    let declared : List Declared = all_declared objects legend meanings in
    let layers : List Layer = layers_of_lines (entries_of declared) layer_lines in
    record {
      objects = objects;
      legend_lines = legend_lines;
      legend = legend;
      meanings = meanings;
      declared = declared;
      layers = layers;
      object_layers = layers_found (length objects) layers;
    }

-- the sections of their lines
abbrev pub name_sections : List Line → List Line → List Line → NameSections
name_sections object_lines legend_lines layer_lines =
    sections_of (object_texts object_lines) (written_lines Legend legend_lines) (written_lines Layers layer_lines)

-- the names of a game -------------------------------------------------------------------------------------------------

-- the glyph of a name of one character that stands for an object or an aggregate
abbrev pub glyph_with : Option ℕ → Meaning → Option Glyph
glyph_with None meaning = None
glyph_with (Some character) (One object) = Some (record { character = character; meaning = One object })
glyph_with (Some character) (AllOf line objects) = Some (record { character = character; meaning = AllOf line objects })
glyph_with (Some character) (AnyOf line objects) = None

-- the glyph of a name, if it is one
abbrev pub glyph_of : Declared → Option Glyph
glyph_of declared = glyph_with (one_character declared.name) declared.meaning

-- the numbers of layers; 0 for an object that no layer names
abbrev pub layer_numbers : List (Option ℕ) → List ℕ
layer_numbers layers = map (λ layer. unwrap_or layer 0) layers

-- the names of the sections
abbrev pub names_of : NameSections → Names
names_of sections =
    record {
      entries = entries_of sections.declared;
      layers = layer_numbers sections.object_layers;
      layer_count = length sections.layers;
      glyphs = filter_map glyph_of sections.declared;
    }

-- the names that the lines of OBJECTS, LEGEND and COLLISIONLAYERS declare
abbrev pub names_read : List Line → List Line → List Line → Names
names_read object_lines legend_lines layer_lines = names_of (name_sections object_lines legend_lines layer_lines)
