-- Sets of columns as the cells of a row of a grid that pass a test.
use Rattle.std.specs.Prelude.{◌≡◌, ◌<◌, ◌≤◌, ◌+◌, ◌*◌, ◌&&◌, ℕ, Bool, false, not, List}
use Rattle.std.specs.List.{list_all, list_any}
use Rattle.ps_model.specs.declared.pieces.Slot.{Slot}
use Rattle.ps_model.specs.declared.compiled.LayeredObject.{LayeredObject}
use Rattle.ps_model.specs.declared.compiled.MotionTest.{MotionTest}
use Rattle.ps_model.specs.board.Grid.{Grid, cell_at}
use Rattle.ps_model.specs.meaning.Compiled.{CellMask, is_held_in, moves_as_asked}
use Rattle.ps_model.specs.declared.limits.TheConstants.{SIDE_LIMIT}
use Rattle.ps_board.specs.ColumnSets.{column_at, either_columns}
use Rattle.ps_rows.specs.Planes.{row_of}

-- the set tells the cells of the row that pass the test
abbrev pub IsRowOf : Grid → ℕ → List Bool → (List Slot → Bool) → Type 0
IsRowOf g row word test = (x : ℕ) → x < g.width → column_at word x ≡ test (cell_at g (x * g.height + row))

-- the set has no column beyond the grid
abbrev pub IsWithin : Grid → List Bool → Type 0
IsWithin g word = (x : ℕ) → g.width ≤ x → x < SIDE_LIMIT → column_at word x ≡ false

-- what a mask asks of a cell, part by part
abbrev pub held : LayeredObject → List Slot → Bool
held sought cell = is_held_in cell sought

abbrev pub held_all : List LayeredObject → List Slot → Bool
held_all objects cell = list_all (is_held_in cell) objects

abbrev pub held_any : List LayeredObject → List Slot → Bool
held_any objects cell = list_any (is_held_in cell) objects

abbrev pub held_of_each : List (List LayeredObject) → List Slot → Bool
held_of_each lists cell = list_all (λ objects. list_any (is_held_in cell) objects) lists

abbrev pub moved : MotionTest → List Slot → Bool
moved test cell = moves_as_asked cell test

abbrev pub moved_all : List MotionTest → List Slot → Bool
moved_all tests cell = list_all (moves_as_asked cell) tests

-- all that a mask needs and nothing that it bars, and what else it asks
abbrev pub is_free : CellMask → List Slot → Bool
is_free mask cell = held_all mask.needed cell && not (held_any mask.barred cell)

abbrev pub narrowed : CellMask → List Slot → Bool
narrowed mask cell = held_of_each mask.one_of cell && moved_all mask.motions cell

-- of the columns of a set those whose cells pass the test
abbrev pub IsPartOf : Grid → ℕ → List Bool → List Bool → (List Slot → Bool) → Type 0
IsPartOf g row columns word test = (x : ℕ) → x < g.width →
    column_at word x ≡ (column_at columns x && test (cell_at g (x * g.height + row)))

-- the columns of a row that one of five planes has
abbrev pub five_rows : ℕ → List (List Bool) → ℕ → ℕ → List Bool
five_rows height words first row =
    let word : ℕ → List Bool = λ plane. row_of words (plane * height + row) in
    either_columns (either_columns (either_columns (either_columns (word first) (word (first + 1))) (word (first + 2)))
    (word (first + 3)))
    (word (first + 4))
