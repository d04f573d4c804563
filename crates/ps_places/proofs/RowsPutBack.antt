-- Sets of columns that were found for some rows of a board, put where those of all its rows stand.
use Rattle.std.proofs.Common.{◌≡◌, ◌∙◌, ℕ, ◌+◌, ◌-◌, ◌<◌, ◌≤◌, Bool, Option, List, [], ◌++◌, length, take, drop}
use Rattle.std.proofs.Common.{subst, arith}
use Rattle.std.specs.Prelude.{slice_index_or, slice_set}
use Rattle.std.proofs.lemmas.List.{get_or-append_right, get_or-set_same, get_or_append_left, length-append, length-drop}
use Rattle.std.proofs.lemmas.List.{length-take-le}
use Rattle.ps_model.specs.board.Grid.{Grid}
use Rattle.ps_model.specs.declared.limits.TheConstants.{SIDE_LIMIT}
use Rattle.ps_program.specs.declared.cells.CompiledCell.{CompiledCell}
use Rattle.ps_program.specs.declared.rows.Axis.{Axis}
use Rattle.ps_program.specs.declared.rows.Axis.TheVariants.{Down, Right}
use Rattle.ps_places.specs.PartStarts.{begins_at, columns_on}
use Rattle.ps_places.specs.RowsFound.{BeginBetween, BeginOnRows, rows_with_room}
use Rattle.ps_places.specs.Starts.{AreWhere}

-- the room of a part --------------------------------------------------------------------------------------------------

-- rows on which a part has room are rows of the board
pub room_within : (axis : Axis) (height cells end : ℕ) → 0 < cells → end ≤ rows_with_room axis height cells →
    end ≤ height
room_within Down height cells end some low = omega arith
room_within Right height cells end some low = low

-- so they have a set of their own
pub room_kept : (axis : Axis) (height cells end long : ℕ) → 0 < cells → end ≤ rows_with_room axis height cells →
    height ≤ SIDE_LIMIT → SIDE_LIMIT ≤ long → end ≤ long
room_kept axis height cells end long some low few room =
    let within : end ≤ height = room_within axis height cells end some low in omega arith

pub room_down : (axis : Axis) (height cells first end count : ℕ) → axis ≡ Down → first < end →
    end ≤ rows_with_room axis height cells → count ≡ end - first → first + count + cells ≤ height + 1
room_down axis height cells first end count along some low are =
    let down : end ≤ height + 1 - cells =
    subst (λ (a : Axis). end ≤ rows_with_room a height cells) along low in omega arith

pub room_across : (height first end count : ℕ) → first < end → end ≤ height → count ≡ end - first →
    first + count ≤ height
room_across height first end count some low are = omega arith

-- one row -------------------------------------------------------------------------------------------------------------

pub begun_one : (g : Grid) (table : Option (List ℕ)) (axis : Axis) (part : List CompiledCell) (first end : ℕ)
    (starts : List (List Bool)) (columns : List Bool) → first < length starts → end ≡ first + 1 →
    AreWhere (begins_at g table axis part first) columns →
    BeginBetween g table axis part first end (slice_set starts first columns)
begun_one g table axis part first end starts columns within one are = λ row low high.
    let same : row ≡ first = omega (arith, low, high, one) in
    let here : columns_on (slice_set starts first columns) first ≡ columns =
    get_or-set_same starts first columns [] within in
    rw (same, here) are

-- the rows between two ------------------------------------------------------------------------------------------------

pub part_long : {X : Type 0} (xs : List X) (first end : ℕ) → first < end → end ≤ length xs →
    length (take (end - first) (drop first xs)) ≡ end - first
part_long xs first end some far =
    let left : length (drop first xs) ≡ length xs - first = length-drop first xs in
    length-take-le (end - first) (drop first xs) (omega arith)

pub put_long : {X : Type 0} (xs found : List X) (first end : ℕ) → first < end → end ≤ length xs →
    length found ≡ length (take (end - first) (drop first xs)) →
    length (take first xs ++ (found ++ drop (end - first) (drop first xs))) ≡ length xs
put_long xs found first end some far long =
    let count : length found ≡ end - first = long ∙ part_long xs first end some far in
    let front : length (take first xs) ≡ first = length-take-le first xs (omega arith) in
    simp (length-append, length-drop) (omega arith)

pub begun_between : (g : Grid) (table : Option (List ℕ)) (axis to : Axis) (part : List CompiledCell) (first end : ℕ)
    (starts found post : List (List Bool)) → axis ≡ to → first < end → end ≤ length starts →
    length found ≡ length (take (end - first) (drop first starts)) →
    BeginOnRows g table to part first found →
    BeginBetween g table axis part first end (take first starts ++ (found ++ post))
begun_between g table axis to part first end starts found post along some far long begun = λ row low high.
    let k : ℕ = row - first in
    let count : length found ≡ end - first = long ∙ part_long starts first end some far in
    let near : k < length found = omega (arith, count, low, high) in
    let at : first + k ≡ row = omega (arith, low) in
    let front : length (take first starts) ≡ first = length-take-le first starts (omega (arith, some, far)) in
    let here : columns_on (take first starts ++ (found ++ post)) row ≡ slice_index_or found k [] =
    get_or-append_right (take first starts) (found ++ post) first row [] front low
    ∙ get_or_append_left found post [] k near in
    rw (along, here) (subst (λ (n : ℕ). AreWhere (begins_at g table to part n) (slice_index_or found k [])) at
    (begun k near))
