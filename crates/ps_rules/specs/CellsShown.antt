-- The written cells of the code as pairs of words, as the definitions have them.
use Rattle.std.specs.Prelude.{List, map}
use Rattle.std.specs.Borrow.{Bor}
use Rattle.std.specs.Global.{Vec}
use Rattle.ps_model.specs.rules.RuleSymbols as model
use Rattle.ps_model.specs.rules.RuleShape as shape
use Rattle.ps_rules.specs.declared.cells.WrittenCell.{WrittenCell}
use Rattle.ps_rules.specs.SymbolsShown.{tokens_shown}

abbrev pub words_shown : WrittenCell → List model.Token × List model.Token
words_shown cell = (tokens_shown cell.left.now, tokens_shown cell.right.now)

abbrev pub cells_shown : List WrittenCell → List (List model.Token × List model.Token)
cells_shown cells = map words_shown cells

abbrev pub cell_rows_shown : List (Vec WrittenCell) → List (List (List model.Token × List model.Token))
cell_rows_shown rows = map (λ cells. cells_shown cells.items) rows

-- the cells of each row
abbrev pub cells_of_rows : List shape.WrittenRow → List (List (List model.Token))
cells_of_rows rows = map (λ row. row.cells) rows

abbrev pub cell_parts_shown : List (Bor (List WrittenCell)) → List (List (List model.Token × List model.Token))
cell_parts_shown parts = map (λ part. cells_shown part.now) parts
