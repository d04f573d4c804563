-- The places of a row of two parts that has a writer come to the cells written that are found row by row of the board.
use Rattle.std.proofs.Common.{◌≡◌, ◌≢◌, ◌∙◌, ℕ, suc, ◌+◌, ◌-◌, ◌*◌, ◌/◌, ◌%◌, ◌<◌, ◌≤◌, ◌||◌, ◌&&◌, cond, Bool, true}
use Rattle.std.proofs.Common.{false, Option, Some, List, [], ◌∷◌, ◌++◌, length, map, filter, fold, take, drop, refl}
use Rattle.std.proofs.Common.{sym, subst, ap, ap₂, arith}
use Rattle.std.specs.Prelude.{All, nat_eq, nat_le, nat_lt, slice_get, slice_index_or, if◌then◌else◌}
use Rattle.std.specs.List.{list_all, list_any}
use Rattle.std.proofs.Math.Seq.{drop-cons}
use Rattle.std.proofs.lemmas.Bool.{and_parts, eq-eqb, lt-ltb}
use Rattle.std.proofs.lemmas.Bool.Decides.{nat_tests}
use Rattle.std.proofs.lemmas.List.{append_assoc, length-append, length-map, length-take-le, map-append}
use Rattle.std.proofs.lemmas.List.{take-append-drop}
use Rattle.std.proofs.lemmas.List.Elements.{All-append, All-cons, All-head, All-nil}
use Rattle.std.proofs.lemmas.Nat.{div_below, mod_below}
use Rattle.std.proofs.lemmas.Option.{get_or_from_slice_get, slice_get_within}
use Rattle.ps_model.specs.declared.limits.TheConstants.{SIDE_LIMIT}
use Rattle.ps_model.specs.board.Grid.{Grid, IsGrid}
use Rattle.ps_model.specs.board.Places.{cells_in, fits_along, places, search_order, stretches}
use Rattle.ps_model.specs.board.Attempts.{Rewritten, applied, combinations}
use Rattle.ps_model.specs.meaning.RuleMeanings.{CellMeaning}
use Rattle.ps_laws.proofs.common.Everywhere.{All-each}
use Rattle.ps_laws.proofs.alike.TurnedAttempts.{chosen_by}
use Rattle.ps_board.specs.ColumnSets.{column_at, set_columns}
use Rattle.ps_board.proofs.ColumnLaws.{first_in, none_in}
use Rattle.ps_board.proofs.PassedColumns.{cell_below}
use Rattle.ps_match.specs.Together.{rewritten_where}
use Rattle.ps_match.proofs.Chosen.{where-agree, where-none}
use Rattle.ps_match.proofs.RowWritten.{told}
use Rattle.ps_program.specs.Axes.{direction_of}
use Rattle.ps_program.specs.CellsShown.{write_shown}
use Rattle.ps_program.specs.Writers.{cell_writes_alone, part_writer, parts_writer, rows_writer, settles, stands_aside}
use Rattle.ps_program.specs.Writers.{writes_alone}
use Rattle.ps_program.specs.declared.cells.CompiledCell.{CompiledCell}
use Rattle.ps_program.specs.declared.rows.CompiledRow.{CompiledRow}
use Rattle.ps_program.specs.declared.writers.Writer.{Writer}
use Rattle.ps_program.specs.declared.rows.Axis.{Axis}
use Rattle.ps_program.specs.declared.rows.Axis.TheVariants.{Down, Right}
use Rattle.ps_places.specs.FoundStarts.{begins_on, part_of}
use Rattle.ps_places.specs.Lines.{cell_meaning, line_long, part_meaning}
use Rattle.ps_places.specs.PartTargets.{AreTargets, has_partner, is_kept, is_reached, is_target, line_of}
use Rattle.ps_places.specs.PartTargets.{number_in_row, other_part, own_part, position_of, target_at}
use Rattle.ps_places.specs.RowPlaces.{parts_meaning}
use Rattle.ps_places.proofs.TargetCells.{line_of-on, position_of-on, targets-are}
use Rattle.ps_places.proofs.InSearchOrder.{alone}
use Rattle.ps_engine.specs.Writing.{AreWithin, is_written, start_column, start_row}
use Rattle.ps_places.proofs.Apart.{applied_along}
use Rattle.ps_engine.proofs.WrittenOnce.{StandsAside, fits_within, places_from, target_fits, target_of}
use Rattle.ps_engine.proofs.WritersAside.{cells_aside, written_twice}
use Rattle.ps_places.proofs.PlacesWritten.{nothing_behind}

-- a row without combinations has no places
no_places : (ps : List (List ℕ)) → map alone ps ++ [] ≡ [] → ps ≡ []
no_places [] e = refl
no_places (p ∷ ps) e = absurd (cc)

-- one row alone -------------------------------------------------------------------------------------------------------

abbrev asked : Bool → Bool
asked fit = elim fit [ true ↦ true | false ↦ false ]

asked_twice : (fit : Bool) (x y : Rewritten) → chosen_by (asked fit) x y ≡ chosen_by fit x y
asked_twice true x y = refl
asked_twice false x y = refl

applied_alone : (row : List (List CellMeaning)) (r : Rewritten) (place : List ℕ) →
    applied (row ∷ []) r (place ∷ []) ≡ applied_along (cells_in row) r place
applied_alone row r place = asked_twice (fits_along r.grid (cells_in row) place) _ _

fold_alone : (row : List (List CellMeaning)) (r : Rewritten) (ps : List (List ℕ)) →
    fold (applied (row ∷ [])) r (map alone ps) ≡ fold (applied_along (cells_in row)) r ps
fold_alone row r [] = refl
fold_alone row r (place ∷ ps) =
    ap (λ (s : Rewritten). fold (applied (row ∷ [])) s (map alone ps)) (applied_alone row r place)
    ∙ fold_alone row (applied_along (cells_in row) r place) ps

-- each place fits
kept_all : {X : Type 0} (test : X → Bool) (xs : List X) → All (λ x. test x ≡ true) (filter test xs)
kept_all test [] = All-nil (λ x. test x ≡ true)
kept_all test (x ∷ xs) = by (test x) refl (kept_all test xs) where
  by : (b : Bool) → test x ≡ b → All (λ x. test x ≡ true) (filter test xs) →
      All (λ x. test x ≡ true) (cond b (x ∷ filter test xs) (filter test xs))
  by true e rest = All-cons (λ x. test x ≡ true) x (filter test xs) e rest
  by false e rest = rest

-- a part and its cell with a number
parted : (part : List CompiledCell) (number : ℕ) (cell : CompiledCell) → slice_get part number ≡ Some cell →
    part ≡ take number part ++ cell ∷ drop (number + 1) part
parted part number cell is =
    let next : suc number ≡ number + 1 = omega arith in
    sym (take-append-drop number part)
    ∙ ap (λ (rest : List CompiledCell). take number part ++ rest)
    (drop-cons part number cell (slice_get_within part number cell is)
    ∙ ap₂ (λ (first : CompiledCell) (k : ℕ). first ∷ drop k part) (get_or_from_slice_get part number cell cell is) next)

-- a row's cells before the one that is written, and behind it
abbrev before_of : Bool → List CellMeaning → List CellMeaning → List CellMeaning
before_of true front other = front
before_of false front other = other ++ front

abbrev behind_of : Bool → List CellMeaning → List CellMeaning → List CellMeaning
behind_of true back other = back ++ (other ++ [])
behind_of false back other = back ++ []

abbrev in_order : Bool → List CellMeaning → List CellMeaning → List (List CellMeaning)
in_order true own other = own ∷ other ∷ []
in_order false own other = other ∷ own ∷ []

joined : (leads : Bool) (own other front back : List CellMeaning) (m : CellMeaning) → own ≡ front ++ m ∷ back →
    cells_in (in_order leads own other) ≡ before_of leads front other ++ m ∷ behind_of leads back other
joined true own other front back m e = ap (λ (xs : List CellMeaning). xs ++ (other ++ [])) e ∙ append_assoc front
    (m ∷ back) (other ++ [])
joined false own other front back m e =
    ap (λ (xs : List CellMeaning). other ++ (xs ++ [])) e
    ∙ ap (λ (xs : List CellMeaning). other ++ xs) (append_assoc front (m ∷ back) [])
    ∙ sym (append_assoc other front (m ∷ (back ++ [])))

meant_in_order : (table : Option (List ℕ)) (leads : Bool) (first second : List CompiledCell) →
    parts_meaning table (first ∷ second ∷ [])
    ≡ in_order leads (part_meaning table (own_part leads first second)) (part_meaning table
    (other_part leads first second))
meant_in_order table true first second = refl
meant_in_order table false first second = refl

long_before : (table : Option (List ℕ)) (leads : Bool) (first second : List CompiledCell) (front : List CellMeaning)
    (steps : ℕ) → length front ≡ steps →
    length (before_of leads front (part_meaning table (other_part leads first second))) ≡ number_in_row leads
    (length first) steps
long_before table true first second front steps e = e
long_before table false first second front steps e =
    length-append (part_meaning table first) front
    ∙ ap₂ (λ (a b : ℕ). a + b) (length-map first (cell_meaning table)) e

-- a part has room where it begins
begins_room : (g : Grid) (table : Option (List ℕ)) (axis : Axis) (leads : Bool) (first second : List CompiledCell)
    (line position : ℕ) →
    is_target g table axis leads first second line position ≡ true →
    position + length (own_part leads first second) ≤ line_long axis g
begins_room g table axis leads first second line position is =
    let own : List CompiledCell = own_part leads first second in
    let begins : begins_on g table axis line own position ≡ true =
    (and_parts (begins_on g table axis line own position) (has_partner g table axis leads first second line position)
    is).0 in
    let room : nat_le (position + length own) (line_long axis g) ≡ true = (and_parts (nat_le (position + length own)
    (line_long axis g)) _ begins).0 in
    grind (arith, nat_tests, room)

-- the first of a list
record HasFirst (xs : List ℕ) : Type 0 where
  pub first : ℕ
  pub rest : List ℕ
  pub is : xs ≡ first ∷ rest

has_first : (xs : List ℕ) → 0 < length xs → HasFirst xs
has_first [] some = absurd (omega arith)
has_first (x ∷ xs) some = record { first = x; rest = xs; is = refl }

-- a column that is kept of a row
record IsColumnOf (g : Grid) (table : Option (List ℕ)) (axis : Axis) (leads : Bool) (first second : List CompiledCell)
    (rows : List Bool) (starts : List (List Bool)) (row : ℕ) : Type 0 where
  pub column : ℕ
  pub low : column < SIDE_LIMIT
  pub kept : is_kept rows starts row column ≡ true
  pub target : target_at g table axis leads first second row column ≡ true

column_of : (g : Grid) (table : Option (List ℕ)) (axis : Axis) (leads : Bool) (first second : List CompiledCell)
    (rows : List Bool) (starts : List (List Bool)) (row : ℕ) →
    AreTargets g table axis leads first second rows starts → column_at rows row ≡ true →
    IsColumnOf g table axis leads first second rows starts row
column_of g table axis leads first second rows starts row targets there =
    let one = has_first (set_columns (slice_index_or starts row [])) ((targets.kept).some row there) in
    let x = first_in (slice_index_or starts row []) one.first one.rest one.is in
    let kept : is_kept rows starts row one.first ≡ true = ap₂ (λ (a b : Bool). a && b) there x.0 in
    record {
      column = one.first;
      low = x.1;
      kept = kept;
      target = sym ((targets.each row ((targets.kept).below row there)).at one.first x.1) ∙ kept;
    }

pub rows_within : (g : Grid) (table : Option (List ℕ)) (axis : Axis) (leads : Bool)
    (first second : List CompiledCell) (steps : ℕ)
    (rows : List Bool) (starts : List (List Bool)) → AreTargets g table axis leads first second rows starts →
    steps < length (own_part leads first second) → AreWithin axis g.height steps rows
rows_within g table Down leads first second steps rows starts targets low =
    record {
      at = λ row there.
          let one = column_of g table Down leads first second rows starts row targets there in
          let both = and_parts (nat_lt one.column g.width) (is_target g table Down leads first second one.column row)
          one.target in
          let room : row + length (own_part leads first second) ≤ g.height = begins_room g table Down leads first
          second one.column row both.1 in
          omega (arith, room, low);
    }
rows_within g table Right leads first second steps rows starts targets low =
    record { at = λ row there. (targets.kept).below row there }

-- a cell that is written
record IsWrittenSomewhere (g : Grid) (axis : Axis) (steps : ℕ) (rows : List Bool) (starts : List
    (List Bool)) : Type 0 where
  pub number : ℕ
  pub low : number < g.width * g.height
  pub is : is_written axis g.height steps rows starts number ≡ true

written_from : (steps position : ℕ) (kept : ℕ → Bool) → kept position ≡ true →
    (nat_le steps (position + steps) && kept (position + steps - steps)) ≡ true
written_from steps position kept is =
    let reach : steps ≤ position + steps = omega arith in
    let yes : nat_le steps (position + steps) ≡ true = grind (arith, nat_tests, reach) in
    let back : position + steps - steps ≡ position = omega arith in
    ap₂ (λ (a : Bool) (k : ℕ). a && kept k) yes back ∙ is

written_somewhere : (g : Grid) (table : Option (List ℕ)) (axis : Axis) (leads : Bool)
    (first second : List CompiledCell) (steps : ℕ)
    (rows : List Bool) (starts : List (List Bool)) (row : ℕ) →
    AreTargets g table axis leads first second rows starts → IsGrid g →
    steps < length (own_part leads first second) → column_at rows row ≡ true →
    IsWrittenSomewhere g axis steps rows starts
written_somewhere g table Down leads first second steps rows starts row targets grid low there =
    let one = column_of g table Down leads first second rows starts row targets there in
    let x : ℕ = one.column in
    let both = and_parts (nat_lt x g.width) (is_target g table Down leads first second x row) one.target in
    let on : x < g.width = let t : nat_lt x g.width ≡ true = both.0 in grind (arith, nat_tests, t) in
    let room : row + length (own_part leads first second) ≤ g.height = begins_room g table Down leads first second x
    row both.1 in
    let far : row + steps < g.height = omega (arith, room, low) in
    let n : ℕ = x * g.height + (row + steps) in
    let line : n / g.height ≡ x = line_of-on g Down x (row + steps) on far in
    let position : n % g.height ≡ row + steps = position_of-on g Down x (row + steps) on far in
    record {
      number = n;
      low = cell_below g.width g.height x (row + steps) on far;
      is =
          ap₂ (λ (p l : ℕ). nat_le steps p && is_kept rows starts (p - steps) l) position line
          ∙ written_from steps row (λ k. is_kept rows starts k x) one.kept;
    }
written_somewhere g table Right leads first second steps rows starts row targets grid low there =
    let one = column_of g table Right leads first second rows starts row targets there in
    let x : ℕ = one.column in
    let on : row < g.height = (targets.kept).below row there in
    let room : x + length (own_part leads first second) ≤ g.width = begins_room g table Right leads first second row
    x one.target in
    let far : x + steps < g.width = omega (arith, room, low) in
    let n : ℕ = (x + steps) * g.height + row in
    let line : n % g.height ≡ row = line_of-on g Right row (x + steps) on far in
    let position : n / g.height ≡ x + steps = position_of-on g Right row (x + steps) on far in
    record {
      number = n;
      low = cell_below g.width g.height (x + steps) row far on;
      is =
          ap₂ (λ (p l : ℕ). nat_le steps p && is_kept rows starts l (p - steps)) position line
          ∙ written_from steps x (λ k. is_kept rows starts row k) one.kept;
    }

module _ (g : Grid) (table : Option (List ℕ)) (axis : Axis) (first second : List CompiledCell) (leads : Bool)
    (steps : ℕ)
    (cell : CompiledCell) (grid : IsGrid g) (some : 0 < length first) (more : 0 < length second)
    (at : slice_get (own_part leads first second) steps ≡ Some cell)
    (only : cell_writes_alone (Some cell) (take steps (own_part leads first second)) (drop (steps + 1)
    (own_part leads first second))
    (other_part leads first second) ≡ true)
    (rows : List Bool) (starts : List (List Bool)) (targets : AreTargets g table axis leads first second rows starts)
  where
    abbrev m : CellMeaning
    m = cell_meaning table cell

    abbrev meant : List (List CellMeaning)
    meant = parts_meaning table (first ∷ second ∷ [])

    abbrev own : List CompiledCell
    own = own_part leads first second

    within : steps < length own
    within = slice_get_within own steps cell at

    abbrev aside : List CompiledCell → Bool
    aside cells = list_all (stands_aside (write_shown cell.write)) cells

    abbrev Aside : List CellMeaning → Type 0
    Aside meanings = All (StandsAside m.rewritten) meanings

    settled : settles (write_shown cell.write) ≡ true
    settled = (and_parts (settles (write_shown cell.write)) _ only).0

    others : (aside (take steps own) && (aside (drop (steps + 1) own) && aside (other_part leads first second))) ≡ true
    others = (and_parts (settles (write_shown cell.write)) _ only).1

    before_aside : Aside (part_meaning table (take steps own))
    before_aside = cells_aside table cell (take steps own) ((and_parts (aside (take steps own)) _ others).0)

    behind_aside : Aside (part_meaning table (drop (steps + 1) own))
    behind_aside =
        cells_aside table cell (drop (steps + 1) own)
        ((and_parts (aside (drop (steps + 1) own)) (aside (other_part leads first second)) ((and_parts (aside
        (take steps own)) _ others).1)).0)

    other_aside : Aside (part_meaning table (other_part leads first second))
    other_aside =
        cells_aside table cell (other_part leads first second)
        ((and_parts (aside (drop (steps + 1) own)) (aside (other_part leads first second)) ((and_parts (aside
        (take steps own)) _ others).1)).1)

    abbrev before : List CellMeaning
    before = before_of leads (part_meaning table (take steps own)) (part_meaning table (other_part leads first second))

    abbrev behind : List CellMeaning
    behind = behind_of leads (part_meaning table (drop (steps + 1) own)) (part_meaning table
        (other_part leads first second))

    own_meant : part_meaning table own ≡ part_meaning table (take steps own) ++ m ∷ part_meaning table (drop
        (steps + 1) own)
    own_meant =
        ap (part_meaning table) (parted own steps cell at)
        ∙ map-append (cell_meaning table) (take steps own) (cell ∷ drop (steps + 1) own)

    all_aside : (b : Bool) (front back other : List CellMeaning) → Aside front → Aside back → Aside other →
        (Aside (before_of b front other)) × (Aside (behind_of b back other))
    all_aside true front back other fronts backs others_ = (
      fronts,
      All-append (StandsAside m.rewritten) back (other ++ []) backs
          (All-append (StandsAside m.rewritten) other [] others_ (All-nil (StandsAside m.rewritten))),
    )
    all_aside false front back other fronts backs others_ = (
      All-append (StandsAside m.rewritten) other front others_ fronts,
      All-append (StandsAside m.rewritten) back [] backs (All-nil (StandsAside m.rewritten)),
    )

    both_aside : Aside before × Aside behind
    both_aside =
        all_aside leads (part_meaning table (take steps own)) (part_meaning table (drop (steps + 1) own))
        (part_meaning table (other_part leads first second)) before_aside behind_aside other_aside

    whole_is : cells_in meant ≡ before ++ m ∷ behind
    whole_is =
        ap cells_in (meant_in_order table leads first second)
        ∙ joined leads (part_meaning table own) (part_meaning table (other_part leads first second))
        (part_meaning table (take steps own))
        (part_meaning table (drop (steps + 1) own)) m own_meant

    long_is : length before ≡ number_in_row leads (length first) steps
    long_is =
        long_before table leads first second (part_meaning table (take steps own)) steps
        (length-map (take steps own) (cell_meaning table) ∙ length-take-le steps own (omega (arith, within)))

    -- the places, each of which fits
    abbrev all : List (List ℕ)
    all = places g (direction_of axis) meant

    all_kept : All (λ place. fits_along g (cells_in meant) place ≡ true) all
    all_kept =
        All-each (λ place. fits_along g (cells_in meant) place ≡ true)
        (λ end. filter (fits_along g (cells_in meant)) (stretches g (direction_of axis) (map length meant) end))
        (search_order g (direction_of axis))
        (λ end. kept_all (fits_along g (cells_in meant)) (stretches g (direction_of axis) (map length meant) end))

    all_fit : All (λ place. fits_along g (before ++ m ∷ behind) place ≡ true) all
    all_fit = subst (λ (ms : List CellMeaning). All (λ place. fits_along g ms place ≡ true) all) whole_is all_kept

    -- the cells that are kept are those where the part begins that has a partner
    kept_is : (n : ℕ) → n < g.width * g.height →
        is_kept rows starts (start_row axis g.height steps n) (start_column axis g.height steps n)
        ≡ is_target g table axis leads first second (line_of axis g.height n) (position_of axis g.height n - steps)
    kept_is n low = kept_on axis targets n low where
      kept_on : (axis : Axis) → AreTargets g table axis leads first second rows starts → (n : ℕ) →
          n < g.width * g.height →
          is_kept rows starts (start_row axis g.height steps n) (start_column axis g.height steps n)
          ≡ is_target g table axis leads first second (line_of axis g.height n) (position_of axis g.height n - steps)
      kept_on Down targets n low =
          let row : n % g.height < g.height = mod_below n g.height grid.some_row in
          let column : n / g.height < g.width = div_below n g.height g.width grid.some_row low in
          (targets.each (n % g.height - steps) (omega (arith, row))).at (n / g.height) (omega
          (arith, column, grid.columns))
          ∙ ap (λ (b : Bool). b && is_target g table Down leads first second (n / g.height) (n % g.height - steps))
          (lt-ltb (n / g.height) g.width column)
      kept_on Right targets n low =
          let row : n % g.height < g.height = mod_below n g.height grid.some_row in
          let column : n / g.height < g.width = div_below n g.height g.width grid.some_row low in
          (targets.each (n % g.height) row).at (n / g.height - steps) (omega (arith, column, grid.columns))

    reached_is : (n : ℕ) → n < g.width * g.height → is_reached g table axis leads first second steps n ≡ is_written
        axis g.height steps rows starts n
    reached_is n low = ap (λ (b : Bool). nat_le steps (position_of axis g.height n) && b) (sym (kept_is n low))

    any_target : (n : ℕ) → n < g.width * g.height →
        list_any (λ place. nat_eq n (target_of (length before) place)) all ≡ is_written axis g.height steps rows starts
        n
    any_target n low =
        ap (λ (k : ℕ). list_any (λ place. nat_eq n (target_of k place)) all) long_is
        ∙ targets-are g table axis first second grid some more leads steps n within low ∙ reached_is n low

    pub places_written : fold (applied (meant ∷ [])) (told g false) (combinations (all ∷ []))
        ≡ rewritten_where g m.rewritten (is_written axis g.height steps rows starts)
    places_written =
        ap (fold (applied (meant ∷ [])) (told g false)) (nothing_behind (map alone all))
        ∙ fold_alone meant (told g false) all
        ∙ ap (λ (ms : List CellMeaning). fold (applied_along ms) (told g false) all) whole_is
        ∙ ap (λ (r : Rewritten). fold (applied_along (before ++ m ∷ behind)) r all) (sym (where-none g m.rewritten
        (λ n. false) (λ n low. refl)))
        ∙ places_from g before behind m both_aside.0 both_aside.1 (written_twice table cell settled)
        (λ n. false) all all_fit
        ∙ where-agree g m.rewritten (λ n. false || list_any (λ place. nat_eq n (target_of (length before) place)) all)
        (is_written axis g.height steps rows starts)
        (λ n low. any_target n (rw (← grid.cells) low))

    -- whether there is a place ----------------------------------------------------------------------------------------

    no_target : (n : ℕ) → set_columns rows ≡ [] → n < g.width * g.height →
        is_written axis g.height steps rows starts n ≡ false
    no_target n none low = off (nat_le steps (position_of axis g.height n)) (column_at rows
        (start_row axis g.height steps n)) _
        (none_in rows (start_row axis g.height steps n) none (row_low axis n low)) where
          off : (a b c : Bool) → b ≡ false → (a && (b && c)) ≡ false
          off true true c e = absurd (cc)
          off true false c e = refl
          off false b c e = refl

          row_low : (axis : Axis) (n : ℕ) → n < g.width * g.height → start_row axis g.height steps n < SIDE_LIMIT
          row_low Down n low = let row : n % g.height < g.height = mod_below n g.height grid.some_row in omega
              (arith, row, grid.rows)
          row_low Right n low = let row : n % g.height < g.height = mod_below n g.height grid.some_row in omega
              (arith, row, grid.rows)

    no_place : (ps : List (List ℕ)) → ps ≡ all → set_columns rows ≡ [] → ps ≡ []
    no_place [] e none = refl
    no_place (place ∷ ps) e none =
        let fits : fits_along g (before ++ m ∷ behind) place ≡ true =
        All-head (λ p. fits_along g (before ++ m ∷ behind) p ≡ true) place ps
        (subst (λ (qs : List (List ℕ)). All (λ p. fits_along g (before ++ m ∷ behind) p ≡ true) qs) (sym e) all_fit) in
        let n : ℕ = target_of (length before) place in
        let low : n < g.width * g.height = rw (← grid.cells) (fits_within g m n
        (target_fits m behind g before place fits)) in
        let here : list_any (λ p. nat_eq n (target_of (length before) p)) all ≡ true =
        ap (list_any (λ p. nat_eq n (target_of (length before) p))) (sym e)
        ∙ ap (λ (b : Bool). b || list_any (λ p. nat_eq n (target_of (length before) p)) ps) (eq-eqb n n refl) in
        let clash : true ≡ false = sym here ∙ any_target n low ∙ no_target n none low in
        absurd (cc)

    pub nothing_found : set_columns rows ≡ [] → combinations (all ∷ []) ≡ []
    nothing_found none = nothing_behind (map alone all) ∙ ap (map alone) (no_place all refl none)

    pub something_found : 0 < length (set_columns rows) → combinations (all ∷ []) ≢ []
    something_found found none =
        let one = has_first (set_columns rows) found in
        let row = first_in rows one.first one.rest one.is in
        let there = written_somewhere g table axis leads first second steps rows starts one.first targets grid within
        row.0 in
        let no : all ≡ [] = no_places all none in
        let clash : false ≡ true =
        ap (list_any (λ p. nat_eq there.number (target_of (length before) p))) (sym no)
        ∙ any_target there.number there.low ∙ there.is in
        absurd (cc)

-- the writer of a rule ------------------------------------------------------------------------------------------------

-- a row of two parts has a writer
pub record HasWriter (parts : List (List CompiledCell)) (writer : Writer) : Type 0 where
  pub two : parts ≡ part_of parts 0 ∷ part_of parts 1 ∷ []
  pub alone : writes_alone (own_part writer.leads (part_of parts 0) (part_of parts 1)) writer.cell
      (other_part writer.leads (part_of parts 0) (part_of parts 1)) ≡ true

pub writer_known : (parts : List (List CompiledCell)) (writer : Writer) → parts_writer parts writer ≡ true →
    HasWriter parts writer
writer_known [] writer e = absurd (cc)
writer_known (first ∷ []) writer e = absurd (cc)
writer_known (first ∷ second ∷ []) writer e = record { two = refl; alone = by writer.leads refl } where
  chosen : (b : Bool) → writer.leads ≡ b → (if b then part_writer first writer.cell second else part_writer second
      writer.cell first) ≡ true
  chosen b is = ap (λ (t : Bool). if t then part_writer first writer.cell second else part_writer second writer.cell
      first) (sym is) ∙ e

  by : (b : Bool) → writer.leads ≡ b → writes_alone (own_part writer.leads first second) writer.cell
      (other_part writer.leads first second) ≡ true
  by true is =
      ap (λ (t : Bool). writes_alone (own_part t first second) writer.cell (other_part t first second)) is
      ∙ (and_parts (nat_lt writer.cell SIDE_LIMIT) (writes_alone first writer.cell second) (chosen true is)).1
  by false is =
      ap (λ (t : Bool). writes_alone (own_part t first second) writer.cell (other_part t first second)) is
      ∙ (and_parts (nat_lt writer.cell SIDE_LIMIT) (writes_alone second writer.cell first) (chosen false is)).1
writer_known (first ∷ second ∷ third ∷ parts) writer e = absurd (cc)

pub row_known : (rows : List CompiledRow) (writer : Writer) (row : CompiledRow) →
    rows_writer rows (Some writer) ≡ true → row ≡ slice_index_or rows 0 row →
    (rows ≡ row ∷ []) × (parts_writer row.parts writer ≡ true)
row_known [] writer row e is = absurd (cc)
row_known (only ∷ []) writer row e is = (
  ap (λ (r : CompiledRow). r ∷ []) (sym is),
  ap (λ
      (r : CompiledRow). parts_writer r.parts writer) is ∙ e,
)
row_known (only ∷ other ∷ rows) writer row e is = absurd (cc)
