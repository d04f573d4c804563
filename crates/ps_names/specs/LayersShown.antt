-- The lines of COLLISIONLAYERS as the code keeps them, and the layers of objects line by line.
use Rattle.std.specs.Prelude.{ℕ, suc, List, [], ◌∷◌, Option, Some, map, option_map, slice_set}
use Rattle.std.specs.Str.{bytes_eq}
use Rattle.std.specs.Map.{lookup}
use Rattle.ps_model.specs.declared.pieces.ObjectId.{ObjectId}
use Rattle.ps_model.specs.text.Lines.{folded}
use Rattle.ps_model.specs.names.Names as model
use Rattle.ps_model.specs.names.LayerLines as layers
use Rattle.ps_model.specs.text.WrittenLines.{WrittenLine}
use Rattle.ps_names.specs.declared.layers.Layer.{Layer}
use Rattle.ps_names.specs.Shown.{meaning_shown}
use Rattle.ps_names.specs.Known.{Named}
use Rattle.ps_names.specs.Tables.{entries_with}

-- what the words of a line stand for
abbrev pub named_by : List (Named × Option model.Meaning) → List (List ℕ) → List (Option model.Meaning)
named_by table words = map (λ word. lookup (bytes_eq (folded word)) (entries_with table)) words

abbrev pub layer_shown : Layer → layers.Layer
layer_shown layer = record {
  line = layer.line;
  named =
      map (λ m. option_map (λ m. meaning_shown m.now) m) layer.named.items;
}

abbrev pub layers_shown : List Layer → List layers.Layer
layers_shown layers = map layer_shown layers

-- the layer of a line
abbrev pub layer_over : List (Named × Option model.Meaning) → WrittenLine → layers.Layer
layer_over table line = record { line = line.number; named = named_by table line.words }

-- the layers of objects once these objects lie on a layer
abbrev pub placed : ℕ → List (Option ℕ) → List ObjectId → List (Option ℕ)
placed layer places [] = places
placed layer places (object ∷ objects) = placed layer (slice_set places object.0 (Some layer)) objects

-- the layers of objects once the objects of each layer, from a number on, lie on it
abbrev pub placed_each : ℕ → List (Option ℕ) → List (List ObjectId) → List (Option ℕ)
placed_each layer places [] = places
placed_each layer places (objects ∷ others) = placed_each (suc layer) (placed layer places objects) others
