-- What holds of the names of every game: objects and layers are no more than the limits; each object lies on one of the
-- layers; and every object that a name or a glyph speaks of is one of the game's.
use Rattle.std.specs.Prelude.{ℕ, ◌≤◌, ◌<◌, All}
use Rattle.ps_model.specs.declared.limits.TheConstants.{OBJECT_LIMIT, LAYER_LIMIT}
use Rattle.ps_model.specs.names.Names.{Meaning, Names, members, object_count}

-- every object that the meaning speaks of is below the number
abbrev pub IsBelow : ℕ → Meaning → Type 0
IsBelow count meaning = All (λ object. object.0 < count) (members meaning)

-- the names keep to the limits, and speak of objects and layers of the game alone
pub record AreBounded (names : Names) : Type 0 where
  pub few_objects : object_count names ≤ OBJECT_LIMIT
  pub few_layers : names.layer_count ≤ LAYER_LIMIT
  -- the layer of each object is one of the layers
  pub layers_below : All (λ layer. layer < names.layer_count) names.layers
  -- the objects of each name, and of each glyph, are objects of the game
  pub names_below : All (λ entry. IsBelow (object_count names) entry.1) names.entries
  pub glyphs_below : All (λ glyph. IsBelow (object_count names) glyph.meaning) names.glyphs
