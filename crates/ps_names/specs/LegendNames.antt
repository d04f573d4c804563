-- The names of the legend as the code keeps them, and what they reach.
use Rattle.std.specs.Prelude.{ℕ, zero, suc, Bool, true, false, Option, List, [], ◌∷◌, ◌++◌, map, reverse, slice_set}
use Rattle.std.specs.Prelude.{slice_index_or}
use Rattle.std.specs.Str.{bytes_eq}
use Rattle.std.specs.Map.{lookup}
use Rattle.ps_model.specs.declared.pieces.ObjectId.{ObjectId}
use Rattle.ps_model.specs.text.Lines.{folded}
use Rattle.ps_model.specs.names.Names.{is_among}
use Rattle.ps_model.specs.names.Meanings as model
use Rattle.ps_model.specs.names.Meanings.{OfObject, OfLine, mentions_of}
use Rattle.ps_names.specs.declared.legend_names.LegendName.{LegendName}
use Rattle.ps_names.specs.declared.reach.Reach as code
use Rattle.ps_names.specs.Known.{Named, mentions_of_names, mentions_shown}

abbrev pub name_shown : LegendName → model.LegendName
name_shown name =
    record {
      line = name.line;
      name = name.name.now;
      joiner = name.joiner;
      mentions =
          mentions_shown name.mentions.items;
      all_declared = name.all_declared;
    }

abbrev pub legend_shown : List LegendName → List model.LegendName
legend_shown legend = map name_shown legend

-- whose names these are, if anyone's
abbrev pub found_among : List Named → List (List ℕ) → List (Option model.Mention)
found_among known names = map (λ name. lookup (bytes_eq (folded name)) (mentions_of_names known)) names

-- what was reached: the objects, where they were reached first, and which legend lines, by their places
pub record Reached : Type 0 where
  pub objects : List ObjectId
  pub lines : List Bool

abbrev pub is_reached : Reached → model.Mention → Bool
is_reached reached (OfObject object) = is_among reached.objects object
is_reached reached (OfLine place) = slice_index_or reached.lines place false

abbrev pub with_reached : Reached → model.Mention → Reached
with_reached reached (OfObject object) = record reached { objects = reached.objects ++ object ∷ [] }
with_reached reached (OfLine place) = record reached { lines = slice_set reached.lines place true }

-- what is reached in `steps` steps, where these mentions wait
abbrev pub reached_from : List model.LegendName → ℕ → Reached → List model.Mention → Reached
reached_from legend steps reached [] = reached
reached_from legend zero reached (mention ∷ others) = reached
reached_from legend (suc steps) reached (mention ∷ others) = elim (is_reached reached mention) [
  | true ↦ reached_from legend steps reached others
  | false ↦ reached_from legend steps (with_reached reached mention) (mentions_of legend mention ++ others)
]

abbrev pub reached_shown : code.Reach → Reached
reached_shown reach = record { objects = reach.objects.items; lines = reach.lines.items }

-- the mentions that wait, the next one last
abbrev pub waiting : code.Reach → List model.Mention
waiting reach = reverse (mentions_shown reach.waiting.items)

-- what is reached from there on
abbrev pub reached_with : List LegendName → ℕ → code.Reach → Reached
reached_with legend steps reach = reached_from (legend_shown legend) steps (reached_shown reach) (waiting reach)
