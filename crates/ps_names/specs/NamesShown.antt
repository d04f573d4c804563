-- The names as the code keeps them as those of the definitions.
use Rattle.std.specs.Prelude.{◌≡◌, ℕ, List, Option, map}
use Rattle.ps_model.specs.declared.pieces.ObjectId.{ObjectId}
use Rattle.ps_model.specs.declared.pieces.LayerId.{LayerId}
use Rattle.ps_model.specs.names.Names as model
use Rattle.ps_model.specs.names.NameBounds.{AreBounded}
use Rattle.ps_names.specs.declared.glyphs.Glyph.{Glyph}
use Rattle.ps_names.specs.GlyphsShown.{glyphs_shown}
use Rattle.ps_names.specs.Known.{Named}
use Rattle.ps_names.specs.Tables.{entries_with}

-- layers as their numbers
abbrev pub layer_numbers_shown : List LayerId → List ℕ
layer_numbers_shown layers = map (λ layer. layer.0) layers

abbrev pub names_shown : List (Named × Option model.Meaning) → List ℕ → ℕ → List Glyph → model.Names
names_shown table layers layer_count glyphs = record {
  entries = entries_with table;
  layers = layers;
  layer_count =
      layer_count;
  glyphs = glyphs_shown glyphs;
}

-- what holds of names as the code keeps them, with the objects of Player and of Background beside them
pub record AreKept (names : model.Names) (players backgrounds : List ObjectId) : Type 0 where
  pub bounded : AreBounded names
  pub players_kept : players ≡ model.players names
  pub backgrounds_kept : backgrounds ≡ model.backgrounds names
