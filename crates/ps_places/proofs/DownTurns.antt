-- All places of a part that goes down, column by column as they are searched, come to the same row by row of the board.
use Rattle.std.proofs.Common.{◌≡◌, ◌∙◌, ℕ, ◌+◌, ◌*◌, ◌<◌, ◌≤◌, ◌&&◌, inl, inr, Bool, true, false, cond}
use Rattle.std.proofs.Common.{Option, List, [], ◌∷◌, length, map, filter, fold, refl, sym, ap, ap₂, arith}
use Rattle.std.specs.Prelude.{if◌then◌else◌}
use Rattle.std.specs.List.{flat_map, range_with_len}
use Rattle.std.proofs.Math.Nat.{add-mul, mul-le-mul}
use Rattle.std.proofs.lemmas.Bool.{cases_Bool, lt-ltb}
use Rattle.std.proofs.lemmas.List.{length-map}
use Rattle.std.proofs.lemmas.Nat.{div-mul-add, mod-mul-add}
use Rattle.ps_model.specs.declared.limits.TheConstants.{SIDE_LIMIT}
use Rattle.ps_model.specs.board.Grid.{Grid, IsGrid}
use Rattle.ps_model.specs.board.Places.{column_by_column, places}
use Rattle.ps_model.specs.board.Attempts.{Rewritten, applied, combinations}
use Rattle.ps_model.specs.meaning.RuleMeanings.{CellMeaning}
use Rattle.ps_board.specs.ColumnSets.{column_at, set_columns}
use Rattle.ps_board.proofs.ColumnLaws.{set_columns-are}
use Rattle.ps_board.proofs.PassedColumns.{cell_below}
use Rattle.ps_match.proofs.RowWritten.{told}
use Rattle.ps_program.specs.Axes.{direction_of}
use Rattle.ps_program.specs.declared.cells.CompiledCell.{CompiledCell}
use Rattle.ps_program.specs.declared.rows.Axis.TheVariants.{Down}
use Rattle.ps_places.specs.InTurn.{applied_down, row_in_turn, turn_down}
use Rattle.ps_places.specs.Lines.{cell_meaning, cells_from, part_meaning}
use Rattle.ps_places.specs.PartStarts.{AreStarts, columns_on, is_start}
use Rattle.ps_places.proofs.Apart.{applied-is, apart-before, apart-behind, either_first, applied_along}
use Rattle.ps_places.proofs.InSearchOrder.{alone}
use Rattle.ps_places.proofs.LinePlaces.{column_lists}
use Rattle.ps_places.proofs.PlacesWritten.{nothing_behind, places_from, rows_of}
use Rattle.ps_places.proofs.Ranges.{both_ends}
use Rattle.ps_places.proofs.StartNumbers.{place_is, room_by, starts_number}
use Rattle.ps_places.proofs.TwoOrders.{either_order, list_by_list, passing_alone, range-agree, still}
use Rattle.ps_places.proofs.Untouched.{AreBelow, AreFrom, cells-below, cells-from}

-- the places on some rows of a board of these sides, row after row
abbrev pub rows_in_turn : ℕ → ℕ → List CellMeaning → List (List Bool) → Rewritten → List ℕ → Rewritten
rows_in_turn width height all starts r rows = fold (λ s row. row_in_turn width height all row (columns_on starts row) s)
    r rows

module _ (g : Grid) (table : Option (List ℕ)) (part : List CompiledCell) (rows : List Bool) (starts : List (List Bool))
    (grid : IsGrid g) (some : 0 < length part) (found : AreStarts g table Down part rows starts) where
  abbrev all : List CellMeaning
  all = part_meaning table part

  abbrev acts : Rewritten → List (List ℕ) → Rewritten
  acts r combination = applied (rows_of all) r combination

  -- the place that begins in a column on a row, if one does
  abbrev turn : Rewritten → ℕ → ℕ → Rewritten
  turn r x row = if is_start rows starts row x then applied_down g.height all row r x else r

  -- one place ---------------------------------------------------------------------------------------------------------

  found_there : (x row : ℕ) → x < g.width → row < g.height →
      starts_number g rows starts (x * g.height + row) ≡ is_start rows starts row x
  found_there x row across under =
      let n : ℕ = x * g.height + row in
      let low : n < length g.cells = rw grid.cells (cell_below g.width g.height x row across under) in
      ap₂ (λ (a b : Bool). a && b) (lt-ltb n (length g.cells) low)
      (ap₂ (is_start rows starts) (mod-mul-add x g.height row under) (div-mul-add x g.height row under))

  one_place : (r : Rewritten) (x row : ℕ) → x < g.width → row < g.height →
      fold acts r (map alone (places_from g (direction_of Down) all (x * g.height + row))) ≡ turn r x row
  one_place r x row across under =
      let n : ℕ = x * g.height + row in
      let low : n < length g.cells = rw grid.cells (cell_below g.width g.height x row across under) in
      ap (λ (ps : List (List ℕ)). fold acts r (map alone ps)) (place_is g table Down part rows starts grid some found
      n low)
      ∙ by (starts_number g rows starts n)
      ∙ ap (λ (b : Bool). if b then applied_down g.height all row r x else r) (found_there x row across under) where
        by : (b : Bool) →
            fold acts r (map alone (cond b (cells_from 1 (x * g.height + row) (length all) ∷ []) []))
            ≡ (if b then applied_down g.height all row r x else r)
        by true = refl
        by false = refl

  -- two of them -------------------------------------------------------------------------------------------------------

  abbrev cells : ℕ → ℕ → List ℕ
  cells x row = cells_from 1 (x * g.height + row) (length all)

  inside : (x row : ℕ) → x < g.width → row < g.height → is_start rows starts row x ≡ true →
      AreBelow ((x + 1) * g.height) (cells x row)
  inside x row across under on =
      let wide : g.width ≤ SIDE_LIMIT = grid.columns in
      let low : x < SIDE_LIMIT = omega (arith, across, wide) in
      let room : row + length part ≤ g.height = room_by g table part row x
      (sym ((found.each row under).at x low) ∙ on) in
      let size : length all ≡ length part = length-map part (cell_meaning table) in
      let split : (x + 1) * g.height ≡ x * g.height + 1 * g.height = add-mul x 1 g.height in
      cells-below (x * g.height + row) 1 (length all) ((x + 1) * g.height) (omega arith)
      (omega (arith, room, size, split))

  behind : (x other row : ℕ) → x < other → AreFrom ((x + 1) * g.height) (cells other row)
  behind x other row less =
      let one : x + 1 ≤ other = omega (arith, less) in
      let same : g.height ≤ g.height = omega arith in
      let most : (x + 1) * g.height ≤ other * g.height = mul-le-mul one same in
      cells-from (other * g.height + row) 1 (length all) ((x + 1) * g.height) (omega (arith, most))

  applied_twice : (r : Rewritten) (x other y z : ℕ) → x < other → other < g.width → z < g.height →
      is_start rows starts z x ≡ true →
      applied_down g.height all z (applied_down g.height all y r other) x
      ≡ applied_down g.height all y (applied_down g.height all z r x) other
  applied_twice r x other y z less across under on =
      let low : AreBelow ((x + 1) * g.height) (cells x z) = inside x z (omega (arith, less, across)) under on in
      let far : AreFrom ((x + 1) * g.height) (cells other y) = behind x other y less in
      let border : ℕ = (x + 1) * g.height in
      ap (λ (s : Rewritten). applied_down g.height all z s x) (applied-is all r (cells other y))
      ∙ applied-is all (applied_along all r (cells other y)) (cells x z)
      ∙ either_first all r (cells other y) (cells x z) (apart-behind border (cells other y) (cells x z) far low)
      (apart-before border (cells x z) (cells other y) low far)
      ∙ sym (applied-is all (applied_along all r (cells x z)) (cells other y))
      ∙ sym (ap (λ (s : Rewritten). applied_down g.height all y s other) (applied-is all r (cells x z)))

  either_turn : (r : Rewritten) (x other y z : ℕ) → x < other → other < g.width → z < g.height →
      turn (turn r other y) x z ≡ turn (turn r x z) other y
  either_turn r x other y z less across under = by (is_start rows starts z x) (is_start rows starts y other) refl where
    by : (here there : Bool) → is_start rows starts z x ≡ here →
        (let first : Rewritten = if there then applied_down g.height all y r other else r in
        if here then applied_down g.height all z first x else first)
        ≡ (let first : Rewritten = if here then applied_down g.height all z r x else r in
        if there then applied_down g.height all y first other else first)
    by true true on = applied_twice r x other y z less across under on
    by true false on = refl
    by false there on = refl

  -- all of them -------------------------------------------------------------------------------------------------------

  columns_walked : flat_map (places_from g (direction_of Down) all) (column_by_column g)
      ≡ flat_map (λ x. flat_map (λ row. places_from g (direction_of Down) all (x * g.height + row))
      (range_with_len 0 g.height)) (range_with_len 0 g.width)
  columns_walked =
      let start : 0 ≡ 0 * g.height = omega arith in
      ap (λ (a : ℕ). flat_map (places_from g (direction_of Down) all) (range_with_len a (g.width * g.height))) start
      ∙ column_lists (places_from g (direction_of Down) all) g.height 0 g.width

  column_by_turns : (r : Rewritten) (x : ℕ) → x < g.width →
      fold acts r (map alone (flat_map (λ row. places_from g (direction_of Down) all (x * g.height + row))
      (range_with_len 0 g.height)))
      ≡ fold (λ t row. turn t x row) r (range_with_len 0 g.height)
  column_by_turns r x across =
      list_by_list acts alone (λ row. places_from g (direction_of Down) all (x * g.height + row)) r
      (range_with_len 0 g.height)
      ∙ range-agree (λ t row. fold acts t (map alone (places_from g (direction_of Down) all (x * g.height + row))))
      (λ t row. turn t x row) r 0 g.height
      (λ t row low high. one_place t x row across (omega (arith, high)))

  by_columns : (r : Rewritten) →
      fold acts r (combinations (places g (direction_of Down) (all ∷ []) ∷ []))
      ≡ fold (λ s x. fold (λ t row. turn t x row) s (range_with_len 0 g.height)) r (range_with_len 0 g.width)
  by_columns r =
      ap (fold acts r) (nothing_behind (map alone (places g (direction_of Down) (all ∷ []))))
      ∙ ap (λ (ps : List (List ℕ)). fold acts r (map alone ps)) columns_walked
      ∙ list_by_list acts alone (λ x. flat_map (λ row. places_from g (direction_of Down) all (x * g.height + row))
      (range_with_len 0 g.height)) r (range_with_len 0 g.width)
      ∙ range-agree (λ s x. fold acts s (map alone (flat_map (λ row. places_from g (direction_of Down) all
      (x * g.height + row)) (range_with_len 0 g.height))))
      (λ s x. fold (λ t row. turn t x row) s (range_with_len 0 g.height)) r 0 g.width
      (λ s x low high. column_by_turns s x (omega (arith, high)))

  -- the rows that are found are all that have a place
  rows_are : filter (column_at rows) (range_with_len 0 g.height) ≡ set_columns rows
  rows_are =
      let few : g.height ≤ SIDE_LIMIT = grid.rows in
      both_ends (column_at rows) 0 g.height SIDE_LIMIT g.height (omega arith) (omega (arith, few))
      (λ row far. elim (cases_Bool (column_at rows row)) [
        | inl on ↦ let low : row < g.height = found.below row on in absurd (omega (arith, low, far))
        | inr off ↦ off
      ])
      ∙ sym (set_columns-are rows (column_at rows) (λ x low. refl))

  row_alone : (s : Rewritten) (row : ℕ) → column_at rows row ≡ false →
      fold (λ t x. turn t x row) s (range_with_len 0 g.width) ≡ s
  row_alone s row off =
      range-agree (λ t x. turn t x row) (λ t x. t) s 0 g.width
      (λ t x low high. ap (λ (b : Bool). if b && column_at (columns_on starts row) x then applied_down g.height all row
      t x else t) off)
      ∙ still s (range_with_len 0 g.width)

  row_found : (s : Rewritten) (row : ℕ) → column_at rows row ≡ true →
      fold (λ t x. turn t x row) s (range_with_len 0 g.width)
      ≡ row_in_turn g.width g.height all row (columns_on starts row) s
  row_found s row on =
      range-agree (λ t x. turn t x row) (turn_down g.height all row (columns_on starts row)) s 0 g.width
      (λ t x low high. ap (λ (b : Bool). if b && column_at (columns_on starts row) x then applied_down g.height all row
      t x else t) on)

  pub all_in_turn : rows_in_turn g.width g.height (part_meaning table part) starts (told g false) (set_columns rows)
      ≡ fold (applied ((part_meaning table part ∷ []) ∷ [])) (told g false)
      (combinations (places g (direction_of Down) (part_meaning table part ∷ []) ∷ []))
  all_in_turn =
      sym (by_columns (told g false)
      ∙ either_order turn (told g false) 0 g.width 0 g.height
      (λ s x other y z low less high under below. either_turn s x other y z less (omega (arith, high))
      (omega (arith, below)))
      ∙ passing_alone (λ s row. fold (λ t x. turn t x row) s (range_with_len 0 g.width))
      (λ s row. row_in_turn g.width g.height all row (columns_on starts row) s) (column_at rows) (told g false)
      (range_with_len 0 g.height) row_alone row_found
      ∙ ap (rows_in_turn g.width g.height all starts (told g false)) rows_are)

-- one row more ------------------------------------------------------------------------------------------------------

pub next_row : (width height : ℕ) (all : List CellMeaning) (starts : List (List Bool)) (now next : Rewritten)
    (left rest : List Bool) (row : ℕ) → set_columns left ≡ row ∷ set_columns rest →
    next ≡ row_in_turn width height all row (columns_on starts row) now →
    rows_in_turn width height all starts next (set_columns rest)
    ≡ rows_in_turn width height all starts now (set_columns left)
next_row width height all starts now next left rest row is made =
    ap (λ (r : Rewritten). rows_in_turn width height all starts r (set_columns rest)) made
    ∙ sym (ap (rows_in_turn width height all starts now) is)
