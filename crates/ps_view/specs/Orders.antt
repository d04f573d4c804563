-- The orders that a view gives a terminal. All others are kept from it.
use Rattle.std.specs.Prelude.{ℕ, List, ◌++◌, codes}
use Rattle.std.specs.Fmt.{decimal}

-- the cursor is hidden, and the screen is cleared
abbrev pub opening_orders : List ℕ
opening_orders = codes "\u{1b}[?25l\u{1b}[2J"

-- the cursor goes to the left end of a row, by its number from 1
abbrev pub at_row : ℕ → List ℕ
at_row number = codes "\u{1b}[" ++ (decimal number ++ codes ";1H")

-- the row of the cursor is cleared
abbrev pub clear_row : List ℕ
clear_row = codes "\u{1b}[2K"

-- the cursor goes below its row, all from there on is cleared, and the cursor is shown
abbrev pub closing_orders : List ℕ
closing_orders = codes "\r\n\u{1b}[J\u{1b}[?25h"

-- a row, by its number from 1, shows these bytes and nothing else
abbrev pub drawn_row : ℕ → List ℕ → List ℕ
drawn_row number bytes = (at_row number ++ clear_row) ++ bytes
