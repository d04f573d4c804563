-- Levels of the legend lines: a line mentions none of a higher level.
use Rattle.std.specs.Prelude.{ℕ, ◌+◌, ◌≡◌, nat_lt, Bool, true, List, slice_index_or}
use Rattle.std.specs.List.{list_all}
use Rattle.ps_model.specs.names.Meanings.{LegendName, Mention, OfObject, OfLine, mentions_of}

-- the level of the line of a place
abbrev pub level : List ℕ → ℕ → ℕ
level levels place = slice_index_or levels place 0

-- the line that is mentioned is of a level below the limit; an object is below each
abbrev pub is_below : List ℕ → ℕ → Mention → Bool
is_below levels limit (OfObject object) = true
is_below levels limit (OfLine place) = nat_lt (level levels place) limit

abbrev pub are_below : List ℕ → ℕ → List Mention → Bool
are_below levels limit mentions = list_all (is_below levels limit) mentions

-- no line mentions one of a higher level
abbrev pub Fall : List LegendName → List ℕ → Type 0
Fall legend levels = (place : ℕ) → are_below levels (level levels place + 1) (mentions_of legend (OfLine place)) ≡ true
