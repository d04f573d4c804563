-- The objects of each layer, by a table of the layer of each object.
use Rattle.std.specs.Prelude.{◌≡◌, ◌-◌, ◌<◌, ◌≤◌, ℕ, List, filter, length, slice_get, slice_range, slice_index_or}
use Rattle.std.specs.Prelude.{if◌then◌else◌, nat_lt}
use Rattle.std.specs.List.{range_with_len}
use Rattle.ps_model.specs.board.Movement.{is_number}
use Rattle.ps_rows.specs.declared.members.MemberRange.{MemberRange}
use Rattle.ps_rows.specs.declared.members.TheConstants.{SEVERAL_MEMBERS}

-- the objects of a layer among the first of a table, the least number first
unfoldable pub on_layer_below : List ℕ → ℕ → ℕ → List ℕ
on_layer_below table layer count = filter (λ object. is_number (slice_get table object) layer) (range_with_len 0 count)

-- the objects of a layer
unfoldable pub on_layer : List ℕ → ℕ → List ℕ
on_layer table layer = on_layer_below table layer (length table)

-- a range of a list gives the objects of a layer
pub record IsRangeOf (table numbers : List ℕ) (layer : ℕ) (range : MemberRange) : Type 0 where
  pub order : range.start ≤ range.end
  pub within : range.end ≤ length numbers
  pub objects : slice_range numbers range.start range.end ≡ on_layer table layer

-- each layer has its range
abbrev pub AreRangesOf : List ℕ → List ℕ → List MemberRange → Type 0
AreRangesOf table numbers ranges =
    (layer : ℕ) (default : MemberRange) → layer < length ranges →
    IsRangeOf table numbers layer (slice_index_or ranges layer default)

-- a range, or an empty one in place of one of several
abbrev pub short_range : MemberRange → MemberRange
short_range range =
    if nat_lt (range.end - range.start) SEVERAL_MEMBERS then range else record { start = range.start; end = range.start }
