-- Rows whose cells let each other sleep: no write of a cell of theirs may wake a mask of a cell of theirs.
use Rattle.std.specs.Prelude.{Bool, not, List}
use Rattle.std.specs.List.{list_all}
use Rattle.ps_model.specs.meaning.Compiled.{CellWrite}
use Rattle.ps_program.specs.declared.cells.CompiledCell.{CompiledCell}
use Rattle.ps_program.specs.declared.rows.CompiledRow.{CompiledRow}
use Rattle.ps_program.specs.CellsShown.{mask_shown, write_shown}
use Rattle.ps_program.specs.Keeping.{write_wakes}

-- the write wakes not the mask of a cell, none of a part, none of a row, and none of some rows
abbrev pub cell_sleeps : CellWrite → CompiledCell → Bool
cell_sleeps write cell = not (write_wakes write (mask_shown cell.mask))

abbrev pub part_sleeps : CellWrite → List CompiledCell → Bool
part_sleeps write part = list_all (cell_sleeps write) part

abbrev pub row_sleeps : CellWrite → CompiledRow → Bool
row_sleeps write row = list_all (part_sleeps write) row.parts

abbrev pub all_sleep : CellWrite → List CompiledRow → Bool
all_sleep write rows = list_all (row_sleeps write) rows

-- the write of a cell wakes no mask of some rows, nor does one of a part, nor one of a row
abbrev pub cell_lets_sleep : List CompiledRow → CompiledCell → Bool
cell_lets_sleep rows cell = all_sleep (write_shown cell.write) rows

abbrev pub part_lets_sleep : List CompiledRow → List CompiledCell → Bool
part_lets_sleep rows part = list_all (cell_lets_sleep rows) part

abbrev pub row_lets_sleep : List CompiledRow → CompiledRow → Bool
row_lets_sleep rows row = list_all (part_lets_sleep rows) row.parts

-- no write of some rows wakes a mask of theirs
abbrev pub rows_sleep : List CompiledRow → Bool
rows_sleep rows = list_all (row_lets_sleep rows) rows
