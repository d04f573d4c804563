-- What the names of LEGEND stand for. A legend line may name what any other legend line declares, above it or below. A
-- synonym stands for what its name stands for: a synonym of a property or of an aggregate is one and the same as that.
-- Properties of properties and aggregates of aggregates are flattened: their objects are listed once each, where they
-- are first mentioned.
use Rattle.std.specs.Prelude.{ℕ, zero, suc, ◌+◌, nat_eq, Bool, true, false, Option, None, Some, is_some}
use Rattle.std.specs.Prelude.{option_and_then, List, [], ◌∷◌, ◌++◌, length, map, filter_map, sum_by, slice_get}
use Rattle.std.specs.Prelude.{slice_index_or}
use Rattle.std.specs.List.{list_any, list_all, enumerate_from}
use Rattle.std.specs.Str.{bytes_eq}
use Rattle.std.specs.Map.{lookup}
use Rattle.ps_model.specs.declared.pieces.ObjectId.{ObjectId}
use Rattle.ps_model.specs.declared.texts.Joiner.{Joiner}
use Rattle.ps_model.specs.declared.texts.Joiner.TheVariants.{Alone, And, Or}
use Rattle.ps_model.specs.text.Lines.{folded}
use Rattle.ps_model.specs.names.Names.{Meaning, One, AllOf, AnyOf, same_object}
use Rattle.ps_model.specs.names.LegendLines.{Declaration}

-- a name on the right of a legend line is that of an object, or that of a legend line. Such a line is given by its
-- place among those that declare
pub data Mention : Type 0 where
  OfObject : ObjectId → Mention
  OfLine : ℕ → Mention

-- a name of the legend
pub record LegendName : Type 0 where
  -- the number of the line that declares it
  pub line : ℕ
  -- the name, as it is written
  pub name : List ℕ
  -- how the names on the right are joined, and whose names they are, without those that nothing declares
  pub joiner : Joiner
  pub mentions : List Mention
  -- something declares each name on the right
  pub all_declared : Bool

-- which names there are -----------------------------------------------------------------------------------------------

-- a name of an object, its letters folded, mentions the object
abbrev pub object_mention : List ℕ × ObjectId → List ℕ × Mention
object_mention named = (folded named.0, OfObject named.1)

-- a name of the legend, its letters folded, mentions its place among the declarations
abbrev pub line_mention : ℕ × Declaration → List ℕ × Mention
line_mention numbered = (folded numbered.1.name, OfLine numbered.0)

-- the names that are declared, letters folded: those of the objects, and those of the legend
abbrev pub known_names : List (List ℕ × ObjectId) → List Declaration → List (List ℕ × Mention)
known_names objects declared = map object_mention objects ++ map line_mention (enumerate_from 0 declared)

-- a declaration over the names that are known
abbrev pub legend_name : List (List ℕ × Mention) → Declaration → LegendName
legend_name known declared =
    let found : List (Option Mention) = map (λ name. lookup (bytes_eq (folded name)) known) declared.right.mentions in
    record {
      line = declared.line;
      name = declared.name;
      joiner = declared.right.joiner;
      mentions = filter_map (λ mention. mention) found;
      all_declared = list_all is_some found;
    }

-- the names of the legend, in order of declaration
abbrev pub legend_names : List (List ℕ × ObjectId) → List Declaration → List LegendName
legend_names objects declared = let known : List (List ℕ × Mention) = known_names objects declared in
    map (legend_name known) declared

-- what they mention ---------------------------------------------------------------------------------------------------

-- the two are names of the same
abbrev pub same_mention : Mention → Mention → Bool
same_mention (OfObject first) (OfObject second) = same_object first second
same_mention (OfLine first) (OfLine second) = nat_eq first second
same_mention (OfObject first) (OfLine second) = false
same_mention (OfLine first) (OfObject second) = false

-- what a name of the legend mentions, if there is one
abbrev pub mentions_of_name : Option LegendName → List Mention
mentions_of_name None = []
mentions_of_name (Some name) = name.mentions

-- what a name mentions on its line; an object mentions nothing
abbrev pub mentions_of : List LegendName → Mention → List Mention
mentions_of legend (OfObject object) = []
mentions_of legend (OfLine place) = mentions_of_name (slice_get legend place)

-- a list to which mentions are added, in a limited number of steps: one that the list has already is skipped; another
-- is put at its end, and then what the mention's own line mentions is added before the others
abbrev pub with_mentioned : List LegendName → ℕ → List Mention → List Mention → List Mention
with_mentioned legend steps listed [] = listed
with_mentioned legend zero listed (mention ∷ others) = listed
with_mentioned legend (suc steps) listed (mention ∷ others) = elim (list_any (same_mention mention) listed) [
  | true ↦ with_mentioned legend steps listed others
  | false ↦ with_mentioned legend steps (listed ++ mention ∷ []) (mentions_of legend mention ++ others)
]

-- how many mentions the legend has
abbrev pub mention_count : List LegendName → ℕ
mention_count legend = sum_by (λ name. length name.mentions) legend

-- these mentions and all that they mention through legend lines, each once, where it is first mentioned; as the
-- mentions of a line are added once at most, the steps are enough
abbrev pub all_mentioned : List LegendName → List Mention → List Mention
all_mentioned legend mentions = with_mentioned legend (length mentions + mention_count legend) [] mentions

-- the name of a place stands for itself through legend lines
abbrev pub is_on_cycle : List LegendName → ℕ → LegendName → Bool
is_on_cycle legend place name = list_any (same_mention (OfLine place)) (all_mentioned legend name.mentions)

-- what they stand for -------------------------------------------------------------------------------------------------

-- the object that is mentioned, if it is one
abbrev pub object_of : Mention → Option ObjectId
object_of (OfObject object) = Some object
object_of (OfLine place) = None

-- the objects that a name of the legend speaks of, itself or through other names
abbrev pub objects_of : List LegendName → LegendName → List ObjectId
objects_of legend name = filter_map object_of (all_mentioned legend name.mentions)

-- what a name of the legend stands for: a synonym for what its one mention does
abbrev pub meaning_by_joiner : (Mention → Option Meaning) → List LegendName → Joiner → LegendName → Option Meaning
meaning_by_joiner of_mention legend Alone name = option_and_then of_mention (slice_get name.mentions 0)
meaning_by_joiner of_mention legend And name = Some (AllOf name.line (objects_of legend name))
meaning_by_joiner of_mention legend Or name = Some (AnyOf name.line (objects_of legend name))

-- what a mention stands for, after `most` synonyms at most; nothing where synonyms stand for themselves
abbrev pub meaning_behind : List LegendName → ℕ → Mention → Option Meaning
meaning_behind legend most (OfObject object) = Some (One object)
meaning_behind legend zero (OfLine place) = None
meaning_behind legend (suc most) (OfLine place) =
    option_and_then (λ name. meaning_by_joiner (meaning_behind legend most) legend name.joiner name)
    (slice_get legend place)

-- what each name of the legend stands for
abbrev pub legend_meanings : List LegendName → List (Option Meaning)
legend_meanings legend = map (λ numbered. meaning_behind legend (length legend) (OfLine numbered.0))
    (enumerate_from 0 legend)

-- what a mention stands for, where the names of the legend stand for these
abbrev pub meaning_of_mention : List (Option Meaning) → Mention → Option Meaning
meaning_of_mention meanings (OfObject object) = Some (One object)
meaning_of_mention meanings (OfLine place) = slice_index_or meanings place None

-- it is an aggregate
abbrev pub is_aggregate : Option Meaning → Bool
is_aggregate None = false
is_aggregate (Some (One object)) = false
is_aggregate (Some (AllOf line objects)) = true
is_aggregate (Some (AnyOf line objects)) = false

-- it is a property
abbrev pub is_property : Option Meaning → Bool
is_property None = false
is_property (Some (One object)) = false
is_property (Some (AllOf line objects)) = false
is_property (Some (AnyOf line objects)) = true
