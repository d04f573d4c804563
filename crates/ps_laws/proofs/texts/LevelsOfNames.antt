-- The levels that are read have objects of the game alone, and as many cells as their sides say. So each is loaded as a
-- grid of the game.
use Rattle.std.proofs.Common.{◌≡◌, ℕ, zero, suc, ◌+◌, ◌*◌, ◌<◌, Bool, true, false, cond, Option, Some, None, List, []}
use Rattle.std.proofs.Common.{◌∷◌, ◌++◌, length, map, get_or, fold, replicate, refl, ap, ◌∙◌, arith}
use mathlib.Core.Path.{subst}
use Rattle.std.specs.Prelude.{All, IfSome, ⊤, slice_set, slice_index_or, unwrap_or, find, encode_utf8, codes}
use Rattle.std.specs.Char.{to_ascii_lowercase}
use Rattle.std.specs.List.{flat_map, range_with_len, list_any}
use Rattle.std.specs.Str.{bytes_eq}
use Rattle.std.specs.Map.{lookup}
use Rattle.std.proofs.Math.Nat.{suc-mul}
use Rattle.std.proofs.lemmas.List.{length-map, length-append, length-set, length-replicate}
use Rattle.std.proofs.lemmas.List.FromFn.{length-range_with_len}
use Rattle.std.proofs.lemmas.List.Elements.{All-nil, All-cons, All-head, All-tail, All-append}
use Rattle.std.proofs.lemmas.Map.Entries.{All-lookup}
use Rattle.ps_model.specs.declared.pieces.ObjectId.{ObjectId}
use Rattle.ps_model.specs.declared.pieces.Motion.TheVariants.{Still}
use Rattle.ps_model.specs.declared.pieces.Slot.{Slot}
use Rattle.ps_model.specs.declared.pieces.Slot.TheVariants.{Bare, Holds}
use Rattle.ps_model.specs.text.Lines.{Line, folded}
use Rattle.ps_model.specs.names.Names.{Meaning, One, AllOf, AnyOf, Names, layer_of, object_count, meaning_of}
use Rattle.ps_model.specs.names.Names.{members_if, members_named}
use Rattle.ps_model.specs.names.NameBounds.{IsBelow, AreBounded}
use Rattle.ps_model.specs.board.Levels.{shown_objects, is_ground, ground, with_ground, grounded, cell_of}
use Rattle.ps_model.specs.session.LevelLines.{EntryLines, MessageLine, LevelRows, characters_of, of_width}
use Rattle.ps_model.specs.session.LevelLines.{shown_in_level, row_cells, in_columns, entry_of_lines, entry_lines}
use Rattle.ps_model.specs.board.GameGrids.{IsSlotOf, IsCellFrom, IsCellOf}
use Rattle.ps_model.specs.session.GameLevels.{AreObjectsOf, IsEntryOf}
use Rattle.ps_laws.specs.GamesOfTexts.{LoadedLevelsAreGrids, EntriesReadAreOfNames}
use Rattle.ps_laws.proofs.common.Everywhere.{either_one, All-always, All-mapped, All-flat_map, All-joined}
use Rattle.ps_laws.proofs.grids.KeptCells.{IsObjectOf}

-- loading -------------------------------------------------------------------------------------------------------------

IsCellFrom-bare : (names : Names) (layer count : ℕ) → IsCellFrom names layer (replicate count Bare)
IsCellFrom-bare names layer zero = tt
IsCellFrom-bare names layer (suc count) = (tt, IsCellFrom-bare names (suc layer) count)

-- a slot of a layer put on its layer
IsCellFrom-set : (names : Names) (layer step at : ℕ) (cell : List Slot) (slot : Slot) → at ≡ layer + step →
    IsSlotOf names at slot → IsCellFrom names layer cell →
    IsCellFrom names layer (slice_set cell step slot)
IsCellFrom-set names layer step at [] slot e one h = tt
IsCellFrom-set names layer zero at (old ∷ slots) slot e one h = let here : at ≡ layer = omega arith in
    (subst (λ (n : ℕ). IsSlotOf names n slot) here one, h.1)
IsCellFrom-set names layer (suc step) at (old ∷ slots) slot e one h =
    (h.0, IsCellFrom-set names (suc layer) step at slots slot (omega arith) one h.1)

-- the object at rest on its own layer
abbrev with_object : Names → List Slot → ObjectId → List Slot
with_object names slots object = slice_set slots (layer_of names object) (Holds object Still)

with_objects-game : (names : Names) (objects : List ObjectId) (cell : List Slot) → AreObjectsOf names objects →
    IsCellOf names cell → IsCellOf names (fold (with_object names) cell objects)
with_objects-game names [] cell all h = h
with_objects-game names (object ∷ objects) cell all h =
    let one : object.0 < object_count names = All-head (λ (each : ObjectId).
    each.0 < object_count names) object objects all in
    with_objects-game names objects (with_object names cell object)
    (All-tail (λ (each : ObjectId). each.0 < object_count names) object objects all) (
      length-set cell (layer_of names object) (Holds object Still)
          ∙ h.0,
      IsCellFrom-set names 0 (layer_of names object) (layer_of names object) cell (Holds object Still)
          (omega arith) (one, refl) h.1,
    )

cell_of-game : (names : Names) (objects : List ObjectId) → AreObjectsOf names objects →
    IsCellOf names (cell_of names objects)
cell_of-game names objects all =
    with_objects-game names objects (replicate names.layer_count Bare) all
    (length-replicate names.layer_count Bare, IsCellFrom-bare names 0 names.layer_count)

pub loaded-game : LoadedLevelsAreGrids
loaded-game names level h = record {
  layers = refl;
  cells = All-mapped (IsCellOf names) (AreObjectsOf names) (cell_of names) level.cells (cell_of-game names) h.objects;
  shape = length-map level.cells (cell_of names) ∙ h.shape;
}

-- objects -------------------------------------------------------------------------------------------------------------

no_objects : (names : Names) → AreObjectsOf names []
no_objects names = All-nil (λ (each : ObjectId). each.0 < object_count names)

-- what a character shows
shown-game : (names : Names) (found : Option Meaning) → IfSome found (IsBelow (object_count names)) →
    AreObjectsOf names (unwrap_or (shown_objects found) [])
shown-game names None h = no_objects names
shown-game names (Some (One object)) h = h
shown-game names (Some (AllOf line objects)) h = h
shown-game names (Some (AnyOf line objects)) h = no_objects names

shown_in_level-game : (names : Names) → AreBounded names → (character : ℕ) →
    AreObjectsOf names (shown_in_level names character)
shown_in_level-game names bounded character =
    let test : List ℕ → Bool = bytes_eq (encode_utf8 (to_ascii_lowercase character)) in
    shown-game names (lookup test names.entries)
    (All-lookup (IsBelow (object_count names)) test names.entries bounded.names_below)

row-game : (names : Names) → AreBounded names → (width : ℕ) (row : Line) →
    All (AreObjectsOf names) (row_cells names width row)
row-game names bounded width row =
    All-mapped (AreObjectsOf names) (λ character.
    ⊤) (shown_in_level names) (of_width width (characters_of row)) (λ character h.
    shown_in_level-game names bounded character)
    (All-always (λ character. ⊤) (of_width width (characters_of row)) (λ character. tt))

-- a cell of a row, also where there is none
picked-game : (names : Names) (row : List (List ObjectId)) (column : ℕ) → All (AreObjectsOf names) row →
    AreObjectsOf names (slice_index_or row column [])
picked-game names [] column all = no_objects names
picked-game names (objects ∷ row) zero all = All-head (AreObjectsOf names) objects row all
picked-game names (objects ∷ row) (suc column) all =
    picked-game names row column (All-tail (AreObjectsOf names) objects row all)

columns-game : (names : Names) (width : ℕ) (rows : List (List (List ObjectId))) → All (All (AreObjectsOf names)) rows →
    All (AreObjectsOf names) (in_columns width rows)
columns-game names width rows all =
    All-flat_map (AreObjectsOf names) (λ column. ⊤) (λ column.
    map (λ row. slice_index_or row column []) rows) (range_with_len 0 width)
    (λ column h. All-mapped (AreObjectsOf names) (All (AreObjectsOf names)) (λ row.
    slice_index_or row column []) rows (λ row each. picked-game names row column each) all)
    (All-always (λ column. ⊤) (range_with_len 0 width) (λ column. tt))

-- background ----------------------------------------------------------------------------------------------------------

one-found : (names : Names) (test : Bool) (object other : ObjectId) (found : Option ObjectId) →
    IsObjectOf names object → IsObjectOf names (unwrap_or found other) →
    IsObjectOf names (unwrap_or (cond test (Some object) found) other)
one-found names true object other found h k = h
one-found names false object other found h k = k

found-game : (names : Names) (test : ObjectId → Bool) (objects : List ObjectId) (other : ObjectId) →
    AreObjectsOf names objects → IsObjectOf names other → IsObjectOf names (unwrap_or (find test objects) other)
found-game names test [] other all h = h
found-game names test (object ∷ objects) other all h =
    one-found names (test object) object other (find test objects) (All-head (IsObjectOf names) object objects all)
    (found-game names test objects other (All-tail (IsObjectOf names) object objects all) h)

first-game : (names : Names) (objects : List ObjectId) (other : ObjectId) → AreObjectsOf names objects →
    IsObjectOf names other → IsObjectOf names (slice_index_or objects 0 other)
first-game names [] other all h = h
first-game names (object ∷ objects) other all h = All-head (IsObjectOf names) object objects all

members-game : (names : Names) (found : Option Meaning) → IfSome found (IsBelow (object_count names)) →
    AreObjectsOf names (members_if found)
members-game names None h = no_objects names
members-game names (Some meaning) h = h

members_named-game : (names : Names) → AreBounded names → (name : List ℕ) →
    AreObjectsOf names (members_named names name)
members_named-game names bounded name =
    members-game names (meaning_of names name)
    (All-lookup (IsBelow (object_count names)) (bytes_eq (folded name)) names.entries bounded.names_below)

ground-game : (names : Names) → AreBounded names → 0 < object_count names → (cells : List (List ObjectId)) →
    All (AreObjectsOf names) cells → IsObjectOf names (ground names cells)
ground-game names bounded some cells all =
    let background : List ObjectId = members_named names (codes "background") in
    let zeroth : ObjectId = record { 0 = 0 } in
    found-game names (is_ground names) (flat_map (λ objects. objects) cells) (slice_index_or background 0 zeroth)
    (All-joined (IsObjectOf names) cells all)
    (first-game names background zeroth (members_named-game names bounded (codes "background")) some)

with_ground-game : (names : Names) (filler : ObjectId) (objects : List ObjectId) → IsObjectOf names filler →
    AreObjectsOf names objects → AreObjectsOf names (with_ground names filler objects)
with_ground-game names filler objects one all =
    either_one (AreObjectsOf names) (list_any (is_ground names) objects) objects (objects ++ filler ∷ []) all
    (All-append (IsObjectOf names) objects (filler ∷ []) all
    (All-cons (IsObjectOf names) filler [] one (no_objects names)))

grounded-game : (names : Names) → AreBounded names → 0 < object_count names → (cells : List (List ObjectId)) →
    All (AreObjectsOf names) cells → All (AreObjectsOf names) (grounded names cells)
grounded-game names bounded some cells all =
    All-mapped (AreObjectsOf names) (AreObjectsOf names) (with_ground names (ground names cells)) cells
    (λ objects each. with_ground-game names (ground names cells) objects (ground-game names bounded some cells all)
    each) all

-- entries -------------------------------------------------------------------------------------------------------------

columns-counted : (rows : List (List (List ObjectId))) (columns : List ℕ) →
    length (flat_map (λ column. map (λ row. get_or row column []) rows) columns) ≡ length columns * length rows
columns-counted rows [] = omega arith
columns-counted rows (column ∷ columns) =
    let picked : List (List ObjectId) = map (λ (row : List (List ObjectId)). get_or row column []) rows in
    let others : List (List ObjectId) = flat_map (λ column.
    map (λ (row : List (List ObjectId)). get_or row column []) rows) columns in
    let first : length picked ≡ length rows = length-map rows (λ (row : List (List ObjectId)). get_or row column []) in
    let rest : length others ≡ length columns * length rows = columns-counted rows columns in
    let long : length (picked ++ others) ≡ length rows + length columns * length rows = length-append picked others
    ∙ ap (λ (n : ℕ). n + length others) first ∙ ap (λ (n : ℕ). length rows + n) rest in
    long ∙ omega (arith, suc-mul (length columns) (length rows))

-- a level has as many cells as its columns and rows say
pub cells-counted : (names : Names) (width : ℕ) (rows : List Line) →
    length (grounded names (in_columns width (map (row_cells names width) rows))) ≡ width * length rows
cells-counted names width rows =
    let read : List (List (List ObjectId)) = map (row_cells names width) rows in
    length-map (in_columns width read) (with_ground names (ground names (in_columns width read)))
    ∙ columns-counted read (range_with_len 0 width)
    ∙ ap (λ (n : ℕ). n * length read) (length-range_with_len 0 width)
    ∙ ap (λ (n : ℕ). width * n) (length-map rows (row_cells names width))

pub entry_of-game : (names : Names) → AreBounded names → 0 < object_count names → (entry : EntryLines) →
    IsEntryOf names (entry_of_lines names entry)
entry_of-game names bounded some (MessageLine line) = tt
entry_of-game names bounded some (LevelRows first below) =
    let width : ℕ = length (characters_of first) in
    record {
      objects = grounded-game names bounded some (in_columns width (map (row_cells names width) (first ∷ below)))
          (columns-game names width (map (row_cells names width) (first ∷ below))
          (All-mapped (All (AreObjectsOf names)) (λ row. ⊤) (row_cells names width) (first ∷ below) (λ row h.
          row-game names bounded width row) (All-always (λ row. ⊤) (first ∷ below) (λ row. tt))));
      shape = cells-counted names width (first ∷ below);
    }

pub entries_read-game : EntriesReadAreOfNames
entries_read-game names lines bounded some =
    All-mapped (IsEntryOf names) (λ entry. ⊤) (entry_of_lines names) (entry_lines lines) (λ entry h.
    entry_of-game names bounded some entry) (All-always (λ entry. ⊤) (entry_lines lines) (λ entry. tt))
