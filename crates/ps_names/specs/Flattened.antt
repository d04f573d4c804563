-- What a name of the legend speaks of, by what the names that it mentions speak of.
use Rattle.std.specs.Prelude.{ℕ, suc, ◌+◌, true, false, cond, List, [], ◌∷◌, ◌++◌, ◌≡◌, length, slice_index_or}
use Rattle.std.specs.List.{list_any, flat_map}
use Rattle.ps_model.specs.declared.pieces.ObjectId.{ObjectId}
use Rattle.ps_model.specs.names.Names.{is_among}
use Rattle.ps_model.specs.names.Meanings.{LegendName, Mention, OfObject, OfLine, same_mention, mentions_of}
use Rattle.ps_names.specs.Levels.{level, are_below}

-- objects, and after them those of others that aren't among them yet
abbrev pub merged : List ObjectId → List ObjectId → List ObjectId
merged known [] = known
merged known (object ∷ others) = elim (is_among known object) [
  | true ↦ merged known others
  | false ↦ merged (known ++ object ∷ []) others
]

-- the objects that a mention speaks of, where the lines speak of these
abbrev pub spoken : (ℕ → List ObjectId) → Mention → List ObjectId
spoken by_line (OfObject object) = object ∷ []
spoken by_line (OfLine place) = by_line place

abbrev pub all_spoken : (ℕ → List ObjectId) → List Mention → List ObjectId
all_spoken by_line mentions = flat_map (spoken by_line) mentions

-- how many mentions stand on the lines from a place on that aren't listed
abbrev pub room_from : List Mention → ℕ → List LegendName → ℕ
room_from listed place [] = 0
room_from listed place (name ∷ others) = cond (list_any (same_mention (OfLine place)) listed) 0 (length name.mentions)
    + room_from listed (suc place) others

abbrev pub spoken_by : List (List ObjectId) → ℕ → List ObjectId
spoken_by lists line = slice_index_or lists line []

-- the line of a place mentions only lines of lower levels, and speaks of what these speak of
pub record IsFlatAt (levels : List ℕ) (lists : List (List ObjectId)) (place : ℕ) (mentions : List Mention) : Type 0
  where
    pub strict : are_below levels (level levels place) mentions ≡ true
    pub merges : spoken_by lists place ≡ merged [] (all_spoken (spoken_by lists) mentions)

abbrev pub IsFlat : List LegendName → List ℕ → List (List ObjectId) → Type 0
IsFlat legend levels lists = (place : ℕ) → IsFlatAt levels lists place (mentions_of legend (OfLine place))
