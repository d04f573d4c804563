-- Where a part begins, as it is found row by row of the board.
use Rattle.std.proofs.Common.{◌≡◌, ◌∙◌, ℕ, ◌+◌, ◌<◌, ◌≤◌, ◌&&◌, ◌||◌, ◌⊎◌, inl, inr, not, Bool, true, false}
use Rattle.std.proofs.Common.{Option, List, [], ◌∷◌, length, refl, sym, ap, ap₂, arith}
use Rattle.std.specs.Prelude.{nat_eq, nat_le, nat_lt, if◌then◌else◌}
use Rattle.std.proofs.Math.Bool.{and-false}
use Rattle.std.proofs.lemmas.Bool.Decides.{nat_tests}
use Rattle.std.proofs.lemmas.Bool.{cases_eq, cases_lt, not-false, not-true}
use Rattle.ps_model.specs.declared.limits.TheConstants.{SIDE_LIMIT}
use Rattle.ps_model.specs.board.Grid.{Grid}
use Rattle.ps_board.specs.ColumnSets.{both_columns, column_at, columns_below, columns_without, no_columns, set_columns}
use Rattle.ps_board.specs.ColumnSets.{with_column}
use Rattle.ps_board.proofs.ColumnLaws.{below_at, column_at-beyond, column_at-where, first_in, none_in, with_here}
use Rattle.ps_board.proofs.ColumnLaws.{with_other}
use Rattle.ps_board.proofs.Taken.{first_least, in_both, taken_out, was_in}
use Rattle.ps_program.specs.declared.cells.CompiledCell.{CompiledCell}
use Rattle.ps_program.specs.declared.rows.Axis.{Axis}
use Rattle.ps_program.specs.declared.rows.Axis.TheVariants.{Down, Right}
use Rattle.ps_places.specs.Candidates.{BeginsOnlyOn}
use Rattle.ps_places.specs.Lines.{part_fits}
use Rattle.ps_places.specs.PartStarts.{AreStarts, begins_at, columns_on, is_start}
use Rattle.ps_places.specs.RowsFound.{AreEmptyBetween, AreRowsBegun, AreRowsBelow, AreRowsBetween, BeginBetween}
use Rattle.ps_places.specs.RowsFound.{rows_with_room}
use Rattle.ps_places.specs.Starts.{AreWhere}
use Rattle.ps_places.proofs.LineSets.{none_has}

-- a row on which the part doesn't begin
pub not_begun : (g : Grid) (table : Option (List ℕ)) (axis : Axis) (part : List CompiledCell) (own : List Bool)
    (row x : ℕ) →
    BeginsOnlyOn g table axis part own → row < g.height → column_at own row ≡ false → begins_at g table axis part row x
    ≡ false
not_begun g table Down part own row x only low out = by (nat_le (row + length part) g.height) refl where
  by : (room : Bool) → nat_le (row + length part) g.height ≡ room →
      (nat_lt x g.width && (nat_le (row + length part) g.height && part_fits g table Down x part row)) ≡ false
  by true e =
      let within : row + length part ≤ g.height = grind (arith, nat_tests, e) in
      ap (λ (b : Bool). nat_lt x g.width && (nat_le (row + length part) g.height && b))
      (only.at row x low (λ same. within) out)
      ∙ ap (λ (b : Bool). nat_lt x g.width && b) (and-false (nat_le (row + length part) g.height))
      ∙ and-false (nat_lt x g.width)
  by false e = ap (λ (b : Bool). nat_lt x g.width && (b && part_fits g table Down x part row)) e
      ∙ and-false (nat_lt x g.width)
not_begun g table Right part own row x only low out = only.at row x low (λ e. absurd (cc)) out

-- how many rows have room, where the height was read, and that these are few
pub count_of : (axis : Axis) (count high height cells : ℕ) → count ≡ rows_with_room axis high cells → high ≡ height →
    count ≡ rows_with_room axis height cells
count_of axis count high height cells is e = is ∙ ap (λ (h : ℕ). rows_with_room axis h cells) e

pub count_few : (axis : Axis) (count height cells : ℕ) → 0 < cells → count ≡ rows_with_room axis height cells →
    count ≤ height
count_few Right count height cells some is = omega arith
count_few Down count height cells some is = omega arith

-- rows that were looked at together ----------------------------------------------------------------------------------

-- those of a set that aren't below a number are none: all are below it
pub all_below : (rows others : List Bool) (end count : ℕ) → others ≡ columns_without rows (columns_below end) →
    set_columns others ≡ [] → count ≤ SIDE_LIMIT → AreRowsBelow rows count → AreRowsBelow rows end
all_below rows others end count is none few below row on =
    let near : row < SIDE_LIMIT = omega (arith, below row on, few) in
    by (nat_lt row end) refl
    (sym (column_at-where (λ y. column_at rows y && not (column_at (columns_below end) y)) row near)
    ∙ ap (λ (cs : List Bool). column_at cs row) (sym is) ∙ none_in others row none near) where
      by : (here : Bool) → nat_lt row end ≡ here →
          (column_at rows row && not (column_at (columns_below end) row)) ≡ false → row < end
      by true t out = grind (arith, nat_tests, t)
      by false t out =
          let clash : true ≡ false =
          sym (ap₂ (λ (a b : Bool). a && not b) on
          (below_at end row (omega (arith, below row on, few)) ∙ t)) ∙ out in absurd (cc)

-- rows below an end lie between the first of them and the end
pub lie_between : (rows left : List Bool) (first end : ℕ) → set_columns rows ≡ first ∷ set_columns left →
    AreRowsBelow rows end → AreRowsBetween rows first end
lie_between rows left first end taken below = λ row on.
    let from : first ≤ row = elim (cases_lt row first) [
      | inl less ↦
          let clash : false ≡ true = sym (first_least rows first row (set_columns left) taken less) ∙ on in absurd (cc)
      | inr high ↦ high
    ] in
    (from, below row on)

-- the rows from the first one to the end have no column
pub begun-none : (rows none : List Bool) (starts : List (List Bool)) (first end : ℕ) → none ≡ no_columns →
    AreRowsBetween rows first end → AreEmptyBetween first end starts → AreRowsBegun rows starts none
begun-none rows none starts first end is between empty =
    record {
      inside = λ row on. let clash : false ≡ true = sym (none_has none row is) ∙ on in absurd (cc);
      some = λ row on. let clash : false ≡ true = sym (none_has none row is) ∙ on in absurd (cc);
      none = λ row low on out. let at = between row on in empty row at.0 at.1;
    }

-- the rows that aren't left are told of
pub record AreBegunBut (rows : List Bool) (starts : List (List Bool)) (begun left : List Bool) : Type 0 where
  pub within : (row : ℕ) → row < SIDE_LIMIT → column_at left row ≡ true → column_at rows row ≡ true
  pub inside : (row : ℕ) → column_at begun row ≡ true → column_at rows row ≡ true
  pub some : (row : ℕ) → column_at begun row ≡ true → 0 < length (set_columns (columns_on starts row))
  pub none : (row : ℕ) → row < SIDE_LIMIT → column_at rows row ≡ true → column_at left row ≡ false →
      column_at begun row ≡ false → set_columns (columns_on starts row) ≡ []

pub begun-init : (rows none : List Bool) (starts : List (List Bool)) → none ≡ no_columns →
    AreBegunBut rows starts none rows
begun-init rows none starts is =
    record {
      within = λ row low on. on;
      inside = λ row on. let clash : false ≡ true = sym (none_has none row is) ∙ on in absurd (cc);
      some = λ row on. let clash : false ≡ true = sym (none_has none row is) ∙ on in absurd (cc);
      none = λ row low on off out. let clash : true ≡ false = sym on ∙ off in absurd (cc);
    }

-- a row that is in a set with one more is that one, or was in it before
pub more_has : (begun more : List Bool) (row other : ℕ) (b : Bool) → more ≡ with_column begun row b →
    column_at more other ≡ true → ((other ≡ row) × (b ≡ true)) ⊎ (column_at begun other ≡ true)
more_has begun more row other b is on = elim (cases_lt other SIDE_LIMIT) [
  | inl low ↦ elim (cases_eq other row) [
    | inl same ↦
        let here : column_at more row ≡ b = ap (λ (cs : List Bool). column_at cs row) is
        ∙ with_here begun row b (rw (← same) low) in
        inl (same, sym here ∙ ap (column_at more) (sym same) ∙ on)
    | inr apart ↦ inr (sym (ap (λ (cs : List Bool). column_at cs other) is ∙ with_other begun row other b low apart)
        ∙ on)
  ]
  | inr far ↦
      let clash : false ≡ true = sym (ap (λ (cs : List Bool). column_at cs other) is
      ∙ column_at-beyond (λ y. if nat_eq y row then b else column_at begun y) other far) ∙ on in
      absurd (cc)
]

pub begun-more : (rows begun more left next : List Bool) (starts : List (List Bool)) (row : ℕ) (empty : Bool) →
    set_columns left ≡ row ∷ set_columns next → more ≡ with_column begun row (not empty) →
    (empty ≡ true → set_columns (columns_on starts row) ≡ []) →
    (empty ≡ false → 0 < length (set_columns (columns_on starts row))) →
    AreBegunBut rows starts begun left → AreBegunBut rows starts more next
begun-more rows begun more left next starts row empty taken is none some before =
    let first = first_in left row (set_columns next) taken in
    record {
      within = λ other low on. before.within other low (was_in left next row other taken low on);
      inside = λ other on. elim (more_has begun more row other (not empty) is on) [
        | inl here ↦ rw here.0 (before.within row first.1 first.0)
        | inr earlier ↦ before.inside other earlier
      ];
      some = λ other on. elim (more_has begun more row other (not empty) is on) [
        | inl here ↦ rw here.0 (some (not-true empty here.1))
        | inr earlier ↦ before.some other earlier
      ];
      none = λ other low on off out. elim (cases_eq other row) [
        | inl same ↦
            let here : column_at more row ≡ not empty = ap (λ (cs : List Bool). column_at cs row) is
            ∙ with_here begun row (not empty) first.1 in
            let no : not empty ≡ false = sym here ∙ ap (column_at more) (sym same) ∙ out in
            rw same (none (not-false empty no))
        | inr apart ↦
            let t : nat_eq other row ≡ false = grind (arith, nat_tests, apart) in
            before.none other low on
            (taken_out left next row other taken low ∙ ap₂ (λ (a b : Bool). a || b) t off)
            (sym (ap (λ (cs : List Bool). column_at cs other) is
            ∙ with_other begun row other (not empty) low apart) ∙ out)
      ];
    }

pub begun-all : (rows begun left : List Bool) (starts : List (List Bool)) → set_columns left ≡ [] →
    AreBegunBut rows starts begun left → AreRowsBegun rows starts begun
begun-all rows begun left starts none before =
    record {
      inside = before.inside;
      some = before.some;
      none = λ row low on out. before.none row low on (none_in left row none low) out;
    }

-- a row without room, or on which the part doesn't begin
module _ (g : Grid) (table : Option (List ℕ)) (axis : Axis) (part : List CompiledCell)
    (own below rows : List Bool) (count : ℕ) (few : g.height ≤ SIDE_LIMIT)
    (many : count ≡ rows_with_room axis g.height (length part)) (low : below ≡ columns_below count)
    (both : rows ≡ both_columns own below) (only : BeginsOnlyOn g table axis part own) (some : 0 < length part) where
  no_room : (axis' : Axis) (row x : ℕ) → count ≡ rows_with_room axis' g.height (length part) → row < g.height →
      count ≤ row → begins_at g table axis' part row x ≡ false
  no_room Right row x is near far = absurd (omega (arith, is, near, far))
  no_room Down row x is near far =
      let past : g.height < row + length part = omega (arith, is, near, far) in
      let off : nat_le (row + length part) g.height ≡ false = grind (arith, nat_tests, past) in
      ap (λ (b : Bool). nat_lt x g.width && (b && part_fits g table Down x part row)) off
      ∙ and-false (nat_lt x g.width)

  outside : (row x : ℕ) (here within : Bool) → row < g.height → column_at own row ≡ here → nat_lt row count ≡ within →
      column_at rows row ≡ false → begins_at g table axis part row x ≡ false
  outside row x false within near o t out = not_begun g table axis part own row x only near o
  outside row x true false near o t out =
      let far : count ≤ row = grind (arith, nat_tests, t) in no_room axis row x many near far
  outside row x true true near o t out =
      let clash : true ≡ false =
      sym (in_both own below rows count row low both (omega (arith, near, few))
      ∙ ap₂ (λ (a b : Bool). a && b) o t) ∙ out in absurd (cc)

  below_by : (row : ℕ) (here : Bool) → nat_lt row count ≡ here → (column_at own row && nat_lt row count) ≡ true →
      row < count
  below_by row true t on = grind (arith, nat_tests, t)
  below_by row false t on =
      let clash : false ≡ true = sym (ap (λ (b : Bool). column_at own row && b) t ∙ and-false (column_at own row))
      ∙ on in absurd (cc)

  pub rows_below : AreRowsBelow rows count
  rows_below row on = elim (cases_lt row SIDE_LIMIT) [
    | inl near ↦ below_by row (nat_lt row count) refl
        (sym (in_both own below rows count row low both near) ∙ on)
    | inr far ↦
        let clash : false ≡ true = sym (ap (λ (cs : List Bool). column_at cs row) both
        ∙ column_at-beyond (λ y. column_at own y && column_at below y) row far) ∙ on in absurd (cc)
  ]

  pub count_low : (axis' : Axis) → count ≡ rows_with_room axis' g.height (length part) → count ≤ g.height
  count_low Right is = omega (arith, is)
  count_low Down is = omega (arith, is, some)

  told : (starts : List (List Bool)) (begun : List Bool) (row x : ℕ) (on was : Bool) → row < g.height →
      x < SIDE_LIMIT →
      ((r : ℕ) → column_at rows r ≡ true → AreWhere (begins_at g table axis part r) (columns_on starts r)) →
      AreRowsBegun rows starts begun → column_at begun row ≡ on → column_at rows row ≡ was →
      (on && column_at (columns_on starts row) x) ≡ begins_at g table axis part row x
  told starts begun row x true was near low begin are o r = (begin row (are.inside row o)).at x low
  told starts begun row x false false near low begin are o r =
      sym (outside row x (column_at own row) (nat_lt row count) near refl refl r)
  told starts begun row x false true near low begin are o r =
      sym (sym ((begin row r).at x low)
      ∙ none_in (columns_on starts row) x (are.none row (omega (arith, near, few)) r o) low)

  pub starts_found : (starts : List (List Bool)) (begun : List Bool) →
      ((row : ℕ) → column_at rows row ≡ true → AreWhere (begins_at g table axis part row) (columns_on starts row)) →
      AreRowsBegun rows starts begun → AreStarts g table axis part begun starts
  starts_found starts begun begin are =
      record {
        each = λ row near. record {
          at = λ x low. told starts begun row x (column_at begun row) (column_at rows row) near low begin are refl refl;
          some = are.some row;
        };
        below = λ row on. let high : row < count = rows_below row (are.inside row on) in
            omega (arith, high, count_low axis many);
      }

  -- there is no such row
  pub no_starts : (starts : List (List Bool)) → set_columns rows ≡ [] → AreStarts g table axis part rows starts
  no_starts starts none =
      let empty : (row : ℕ) → column_at rows row ≡ true → ⊥ =
      λ row on. let high : row < count = rows_below row on in
      let clash : false ≡ true = sym (none_in rows row none (omega (arith, high, count_low axis many, few))) ∙ on in
      absurd (cc) in
      starts_found starts rows (λ row on. absurd (empty row on))
      (record {
        inside = λ row on. on;
        some = λ row on. absurd (empty row on);
        none = λ row low on out. absurd (empty row on);
      })

  -- the rows between the first one and the end
  pub starts_between : (starts : List (List Bool)) (begun left : List Bool) (first end : ℕ) →
      set_columns rows ≡ first ∷ set_columns left → AreRowsBelow rows end →
      BeginBetween g table axis part first end starts → AreRowsBegun rows starts begun →
      AreStarts g table axis part begun starts
  starts_between starts begun left first end taken high between are =
      starts_found starts begun
      (λ row on. elim (cases_lt row first) [
        | inl less ↦
            let clash : false ≡ true = sym (first_least rows first row (set_columns left) taken less) ∙ on in
            absurd (cc)
        | inr from ↦ between row from (high row on)
      ]) are

-- the only row of a set
only_first : (rows left : List Bool) (first row : ℕ) → set_columns rows ≡ first ∷ set_columns left →
    set_columns left ≡ [] → row < SIDE_LIMIT → column_at rows row ≡ true → row ≡ first
only_first rows left first row taken none low on = elim (cases_eq row first) [
  | inl same ↦ same
  | inr apart ↦
      let other : nat_eq row first ≡ false = grind (arith, nat_tests, apart) in
      let clash : false ≡ true =
      sym (taken_out rows left first row taken low
      ∙ ap (λ (b : Bool). b || column_at left row) other ∙ none_in left row none low) ∙ on in
      absurd (cc)
]

pub only_on : (of below both left : List Bool) (first row : ℕ) → both ≡ both_columns of below →
    set_columns both ≡ first ∷ set_columns left → set_columns left ≡ [] → column_at both row ≡ true → row ≡ first
only_on of below both left first row is taken none on = elim (cases_lt row SIDE_LIMIT) [
  | inl low ↦ only_first both left first row taken none low on
  | inr far ↦
      let off : column_at both row ≡ false =
      ap (λ (set : List Bool). column_at set row) is
      ∙ column_at-beyond (λ x. column_at of x && column_at below x) row far in
      let clash : false ≡ true = sym off ∙ on in
      absurd (cc)
]

-- the columns kept of a row on which a part begins
pub kept_where : (g : Grid) (table : Option (List ℕ)) (axis : Axis) (part : List CompiledCell)
    (rows columns : List Bool) (starts : List (List Bool)) (row : ℕ) → AreStarts g table axis part rows starts →
    row < g.height → ((x : ℕ) → column_at columns x ≡ is_start rows starts row x) →
    AreWhere (begins_at g table axis part row) columns
kept_where g table axis part rows columns starts row are low kept =
    record { at = λ x near. kept x ∙ (are.each row low).at x near }
