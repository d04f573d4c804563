-- The faults of a rule that lie in where its words stand: brackets, words out of place, rows of the right, movement
-- words of a late rule, ellipses.
use Rattle.std.specs.Prelude.{nat_eq, nat_lt, Bool, true, false, ◌&&◌, ◌||◌, not, if◌then◌else◌, List, [], ◌∷◌, ◌++◌}
use Rattle.std.specs.Prelude.{length, filter, reverse, slice_index_or}
use Rattle.std.specs.List.{list_any}
use Rattle.ps_model.specs.declared.limits.TheConstants.{ELLIPSIS_LIMIT}
use Rattle.ps_model.specs.rules.RuleSymbols.{Symbol, Open, Ellipsis, Plus, Late, Without, Moves, Asks, Called, Token}
use Rattle.ps_model.specs.rules.RuleShape.{has_kind, is_bar, is_ellipsis, is_late, has_rows, WrittenSide, RuleShape}
use Rattle.ps_model.specs.rules.RuleShape.{words_behind, at_end, before_end, cells_of_side, words_in_cells, paired_rows}
use Rattle.ps_model.specs.rules.RuleShape.{paired_cells}
use Rattle.ps_model.specs.rules.RuleTree.{is_direction_word}

-- RU1 -----------------------------------------------------------------------------------------------------------------

-- a word of a cell: a name, a movement word, `no` or `...`
abbrev pub is_cell_word : Symbol → Bool
is_cell_word (Called meaning) = true
is_cell_word (Moves word) = true
is_cell_word Without = true
is_cell_word Ellipsis = true
is_cell_word other = false

-- the words outside brackets after the first `[` of a rule
abbrev pub words_outside : RuleShape → List Token
words_outside shape = words_behind shape.left ++ (shape.right.ahead ++ words_behind shape.right)

-- RU1: no row on the left; a `|` outside brackets; or a word of a cell outside brackets after the first `[`
abbrev pub has_bad_bracket : RuleShape → Bool
has_bad_bracket shape =
    not (has_rows shape.left.rows) || (has_kind is_bar (shape.left.ahead ++ words_outside shape) || has_kind
    is_cell_word (words_outside shape))

-- RU2 -----------------------------------------------------------------------------------------------------------------

-- there are words
abbrev pub are_there : List Token → Bool
are_there [] = false
are_there (token ∷ tokens) = true

-- a word that may stand before the rows: `+`, `late` or a direction word
abbrev pub is_rule_word : Symbol → Bool
is_rule_word Plus = true
is_rule_word Late = true
is_rule_word symbol = is_direction_word symbol

-- a command
abbrev pub is_command : Symbol → Bool
is_command (Asks command) = true
is_command other = false

-- a movement word or `no`
abbrev pub asks_for_name : Symbol → Bool
asks_for_name (Moves word) = true
asks_for_name Without = true
asks_for_name other = false

-- a name
abbrev pub is_name : Symbol → Bool
is_name (Called meaning) = true
is_name other = false

-- among the words after a word, and that word, a movement word or `no` has no name right after it
abbrev pub misses_name_behind : Symbol → List Token → Bool
misses_name_behind before [] = asks_for_name before
misses_name_behind before (token ∷ tokens) =
    (asks_for_name before && not (is_name token.symbol)) || misses_name_behind token.symbol tokens

-- in a cell, a movement word or `no` has no name right after it
abbrev pub misses_name : List Token → Bool
misses_name cell = misses_name_behind Open cell

-- a side has a word in its brackets that can't stand there
abbrev pub has_wrong_cell : WrittenSide → Bool
has_wrong_cell side = has_kind (λ symbol. not (is_cell_word symbol)) (words_in_cells side) || list_any misses_name
    (cells_of_side side)

-- RU2: a word that means nothing, or stands where it can't: before the rows something else than `+`, `late` and
-- direction words; after a row of the left anything; on the right anything before the last row, and something else
-- than commands after it
abbrev pub has_unknown_word : RuleShape → Bool
has_unknown_word shape =
    has_kind (λ symbol. not (is_rule_word symbol)) shape.left.ahead
    || (has_wrong_cell shape.left
    || (are_there (words_behind shape.left)
    || (are_there (before_end shape.right)
    || (has_wrong_cell shape.right || has_kind (λ symbol. not (is_command symbol)) (at_end shape.right)))))

-- RU3 and RU4 ---------------------------------------------------------------------------------------------------------

-- two rows have different numbers of cells
abbrev pub lengths_differ : List (List Token) × List (List Token) → Bool
lengths_differ rows = not (nat_eq (length rows.0) (length rows.1))

-- RU3: the right has rows, and they aren't as many as those of the left, or one has another number of cells
abbrev pub has_other_rows : RuleShape → Bool
has_other_rows shape =
    has_rows shape.right.rows && (not (nat_eq (length shape.left.rows) (length shape.right.rows)) || list_any
    lengths_differ (paired_rows shape))

-- RU4: the right has neither rows nor commands
abbrev pub has_nothing_right : RuleShape → Bool
has_nothing_right shape = not (has_rows shape.right.rows) && not (has_kind is_command (at_end shape.right))

-- RU8 and RU12 --------------------------------------------------------------------------------------------------------

-- a movement word
abbrev pub is_movement : Symbol → Bool
is_movement (Moves word) = true
is_movement other = false

-- RU8: a movement word in the brackets of a `late` rule
abbrev pub has_late_move : RuleShape → Bool
has_late_move shape =
    has_kind is_late shape.left.ahead && has_kind is_movement (words_in_cells shape.left ++ words_in_cells shape.right)

-- a cell has `...` with other items
abbrev pub mixes_ellipsis : List Token → Bool
mixes_ellipsis cell = has_kind is_ellipsis cell && not (nat_eq (length cell) 1)

-- a row's first or last cell has `...`
abbrev pub ends_in_ellipsis : List (List Token) → Bool
ends_in_ellipsis cells =
    has_kind is_ellipsis (slice_index_or cells 0 []) || has_kind is_ellipsis (slice_index_or (reverse cells) 0 [])

-- a row has more cells with `...` than the limit
abbrev pub has_many_ellipses : List (List Token) → Bool
has_many_ellipses cells = nat_lt ELLIPSIS_LIMIT (length (filter (has_kind is_ellipsis) cells))

-- among cells after one that has `...`, or hasn't, and that cell, two neighbours both have `...`
abbrev pub ellipses_touch_behind : Bool → List (List Token) → Bool
ellipses_touch_behind before [] = false
ellipses_touch_behind before (cell ∷ cells) =
    (before && has_kind is_ellipsis cell) || ellipses_touch_behind (has_kind is_ellipsis cell) cells

-- two neighbouring cells of a row both have `...`
abbrev pub ellipses_touch : List (List Token) → Bool
ellipses_touch cells = ellipses_touch_behind false cells

-- `...` stands in cells of a row where it can't: with other items, in the first or the last cell, in two neighbours, or
-- too often
abbrev pub has_wrong_cells : List (List Token) → Bool
has_wrong_cells cells =
    list_any mixes_ellipsis cells || (ends_in_ellipsis cells || (ellipses_touch cells || has_many_ellipses cells))

-- in a row of a side `...` stands where it can't
abbrev pub has_wrong_ellipsis : WrittenSide → Bool
has_wrong_ellipsis side = list_any (λ row. has_wrong_cells row.cells) side.rows

-- a cell has `...` on one side alone
abbrev pub has_lone_ellipsis : List Token × List Token → Bool
has_lone_ellipsis words =
    if has_kind is_ellipsis words.0 then not (has_kind is_ellipsis words.1) else has_kind is_ellipsis words.1

-- RU12: an ellipsis where none can stand, or, where the right has rows, not at the same place on both sides
abbrev pub has_bad_ellipsis : RuleShape → Bool
has_bad_ellipsis shape =
    has_wrong_ellipsis shape.left
    || (has_wrong_ellipsis shape.right
    || (has_rows shape.right.rows && list_any (λ rows.
    list_any has_lone_ellipsis (paired_cells rows)) (paired_rows shape)))
