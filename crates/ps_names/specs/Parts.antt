-- The parts of the names beside their table, by the table.
use Rattle.std.specs.Prelude.{ℕ, List, ◌++◌, Option, filter_map, length}
use Rattle.ps_model.specs.declared.faults.Fault.{Fault}
use Rattle.ps_model.specs.names.DeclarationFaults.{layer_faults}
use Rattle.ps_model.specs.names.LayerLines.{Layer, layers_of_lines, layers_found}
use Rattle.ps_model.specs.names.Meanings.{LegendName}
use Rattle.ps_model.specs.names.Names.{Meaning, Names}
use Rattle.ps_model.specs.names.NamesRead.{layer_numbers}
use Rattle.ps_model.specs.names.ObjectLines.{ObjectText}
use Rattle.ps_model.specs.text.WrittenLines.{WrittenLine}
use Rattle.ps_names.specs.declared.parts.OwnLayers.{OwnLayers}
use Rattle.ps_names.specs.declared.parts.Parts.{Parts}
use Rattle.ps_names.specs.Known.{Named}
use Rattle.ps_names.specs.NamesShown.{layer_numbers_shown, names_shown}
use Rattle.ps_names.specs.Sections.{faults_of_whole}
use Rattle.ps_names.specs.Tables.{entries_with, glyph_named}

-- the layers of the lines, over the names of a table
abbrev pub layers_over : List (Named × Option Meaning) → List WrittenLine → List Layer
layers_over table lines = layers_of_lines (entries_with table) lines

-- the layer of each object, 0 where none names it, and how many layers there are
abbrev pub own_layers_of : List (Named × Option Meaning) → List ObjectText → List WrittenLine → List ℕ × ℕ
own_layers_of table objects lines = (
  layer_numbers (layers_found (length objects) (layers_over table lines)),
  length (layers_over table lines),
)

abbrev pub own_layers_seen : OwnLayers → List ℕ × ℕ
own_layers_seen own = (layer_numbers_shown own.layers.items, own.count)

-- the names over a table
abbrev pub names_over : List (Named × Option Meaning) → List ObjectText → List WrittenLine → Names
names_over table objects lines = record {
  entries = entries_with table;
  layers = layer_numbers (layers_found (length objects) (layers_over table lines));
  layer_count = length (layers_over table lines);
  glyphs = filter_map glyph_named table;
}

-- the names of a table and the parts beside it
abbrev pub names_with : List (Named × Option Meaning) → Parts → Names
names_with table parts =
    names_shown table (layer_numbers_shown parts.own_layers.items) parts.layer_count parts.glyphs.items

-- the faults of the names as a whole, where the objects lie on these layers
abbrev pub whole_over : ℕ → List ObjectText → List LegendName × List (Option Meaning) → List (List ℕ × Meaning) →
    List Layer → List Fault
whole_over header objects legend entries layers =
    let places : List (Option ℕ) = layers_found (length objects) layers in
    faults_of_whole header objects places legend.0 legend.1 entries (layer_numbers places)

-- the faults of COLLISIONLAYERS, and those of the names as a whole, over a table and a legend with its meanings
abbrev pub faults_over : ℕ → List (Named × Option Meaning) → List ObjectText →
    List LegendName × List (Option Meaning) → List WrittenLine → List Fault
faults_over header table objects legend lines = layer_faults (layers_over table lines)
    ++ whole_over header objects legend (entries_with table) (layers_over table lines)
