-- Targets of one of two parts, found row by row of the board.
use Rattle.std.proofs.Common.{◌≡◌, ◌≢◌, ◌∙◌, ℕ, ◌+◌, ◌-◌, ◌<◌, ◌≤◌, ◌||◌, ◌&&◌, ◌⊎◌, inl, inr, Bool, true, false}
use Rattle.std.proofs.Common.{Option, List, [], length, refl, sym, ap, ap₂, arith}
use Rattle.std.specs.Prelude.{nat_eq, nat_le, nat_lt, slice_index_or}
use Rattle.std.specs.List.{list_any}
use Rattle.std.proofs.Math.Bool.{and-false, or-false}
use Rattle.std.proofs.lemmas.Bool.{cases_eq, cases_lt, eq-eqb, le-ltb, lt-ltb, ne_eqb}
use Rattle.std.proofs.lemmas.Bool.Decides.{nat_tests}
use Rattle.ps_model.specs.declared.limits.TheConstants.{SIDE_LIMIT}
use Rattle.ps_model.specs.board.Grid.{Grid, IsGrid}
use Rattle.ps_laws.proofs.common.Truths.{same_tests}
use Rattle.ps_board.specs.ColumnSets.{both_columns, column_at, either_columns, no_columns, set_columns}
use Rattle.ps_board.proofs.ColumnLaws.{column_at-where, none_in}
use Rattle.ps_match.proofs.Chosen.{any_agree, any_none, any_one}
use Rattle.ps_match.proofs.RowWritten.{lt_next}
use Rattle.ps_program.specs.declared.cells.CompiledCell.{CompiledCell}
use Rattle.ps_program.specs.declared.rows.Axis.{Axis}
use Rattle.ps_program.specs.declared.rows.Axis.TheVariants.{Down, Right}
use Rattle.ps_places.specs.FoundStarts.{BeginsNowhere, begins_on}
use Rattle.ps_places.specs.Lines.{line_count, part_fits}
use Rattle.ps_places.specs.PartStarts.{AreStarts, columns_on}
use Rattle.ps_places.specs.PartTargets.{AreKept, AreTargets, IsRowKept, IsRowOfTargets, has_partner, is_apart}
use Rattle.ps_places.specs.PartTargets.{is_kept, is_paired, is_target, other_part, own_part, target_at}
use Rattle.ps_places.specs.Starts.{AreWhere, begins_down}
use Rattle.ps_places.proofs.AnyOf.{any-alike, any-either, all}
use Rattle.ps_places.proofs.FoundAcross.{begins-are, nowhere_in}
use Rattle.ps_places.proofs.FoundDown.{below_edge}
use Rattle.ps_places.proofs.LineSets.{none_has}
use Rattle.ps_places.proofs.OnlyOn.{missing}

-- nothing is kept yet -------------------------------------------------------------------------------------------------

pub kept-none : (height : ℕ) (rows : List Bool) (starts : List (List Bool)) → rows ≡ no_columns →
    AreKept height rows starts
kept-none height rows starts e =
    record {
      below = λ row is. let clash : false ≡ true = sym (none_has rows row e) ∙ is in absurd (cc);
      some = λ row is. let clash : false ≡ true = sym (none_has rows row e) ∙ is in absurd (cc);
    }

not_kept : (rows : List Bool) (starts : List (List Bool)) (row : ℕ) → rows ≡ no_columns → (x : ℕ) →
    is_kept rows starts row x ≡ false
not_kept rows starts row e x = ap (λ (b : Bool). b && column_at (slice_index_or starts row []) x) (none_has rows row e)

-- one row more --------------------------------------------------------------------------------------------------------

pub row-here : (g : Grid) (table : Option (List ℕ)) (axis : Axis) (leads : Bool) (first second : List CompiledCell)
    (rows : List Bool) (old : List (List Bool)) (row : ℕ) (columns more : List Bool) (new : List (List Bool)) →
    IsRowKept rows old row columns more new → AreWhere (target_at g table axis leads first second row) columns →
    IsRowOfTargets g table axis leads first second more new row
row-here g table axis leads first second rows old row columns more new kept are =
    record { at = λ x low. kept.here x low ∙ are.at x low }

pub row-other : (g : Grid) (table : Option (List ℕ)) (axis : Axis) (leads : Bool) (first second : List CompiledCell)
    (rows : List Bool) (old : List (List Bool)) (row : ℕ) (columns more : List Bool) (new : List (List Bool))
    (other : ℕ) →
    IsRowKept rows old row columns more new → other < SIDE_LIMIT → other ≢ row →
    IsRowOfTargets g table axis leads first second rows old other →
    IsRowOfTargets g table axis leads first second more new other
row-other g table axis leads first second rows old row columns more new other kept near apart are =
    record { at = λ x low. kept.others other x near apart ∙ are.at x low }

-- parts that go right -------------------------------------------------------------------------------------------------

no_first : (g : Grid) (table : Option (List ℕ)) (axis : Axis) (leads : Bool) (first second : List CompiledCell)
    (line position : ℕ) →
    BeginsNowhere g table axis first line → position < SIDE_LIMIT →
    is_target g table axis leads first second line position ≡ false
no_first g table axis true first second line position none low =
    ap (λ (b : Bool). b && has_partner g table axis true first second line position) (none.at position low)
no_first g table axis false first second line position none low =
    ap (λ (b : Bool). begins_on g table axis line second position && b)
    (any_none (λ other. is_apart false (length first) position other && begins_on g table axis line first other) 0
    SIDE_LIMIT
    (λ other near far. ap (λ (b : Bool). is_apart false (length first) position other && b) (none.at other (omega
    (arith, far)))
    ∙ and-false (is_apart false (length first) position other)))
    ∙ and-false (begins_on g table axis line second position)

no_second : (g : Grid) (table : Option (List ℕ)) (axis : Axis) (leads : Bool) (first second : List CompiledCell)
    (line position : ℕ) →
    BeginsNowhere g table axis second line → position < SIDE_LIMIT →
    is_target g table axis leads first second line position ≡ false
no_second g table axis true first second line position none low =
    ap (λ (b : Bool). begins_on g table axis line first position && b)
    (any_none (λ other. is_apart true (length first) position other && begins_on g table axis line second other) 0
    SIDE_LIMIT
    (λ other near far. ap (λ (b : Bool). is_apart true (length first) position other && b) (none.at other (omega
    (arith, far)))
    ∙ and-false (is_apart true (length first) position other)))
    ∙ and-false (begins_on g table axis line first position)
no_second g table axis false first second line position none low =
    ap (λ (b : Bool). b && has_partner g table axis false first second line position) (none.at position low)

pub across-init : (g : Grid) (table : Option (List ℕ)) (leads : Bool) (first second : List CompiledCell)
    (rows fronts backs both : List Bool) (starts front_sets back_sets : List (List Bool)) → IsGrid g →
    AreStarts g table Right first fronts front_sets →
    AreStarts g table Right second backs back_sets → both ≡ both_columns fronts backs → rows ≡ no_columns →
    (row : ℕ) → row < g.height → column_at both row ≡ false →
    IsRowOfTargets g table Right leads first second rows starts row
across-init g table leads first second rows fronts backs both starts front_sets back_sets grid firsts seconds is e row
    low out =
    record {
      at = λ x near.
          not_kept rows starts row e x
          ∙ sym (by x near (missing fronts backs both row is (omega (arith, low, grid.rows)) out));
    } where
      by : (x : ℕ) → x < SIDE_LIMIT → (column_at fronts row ≡ false) ⊎ (column_at backs row ≡ false) →
          target_at g table Right leads first second row x ≡ false
      by x near (inl none) = no_first g table Right leads first second row x
          (nowhere_in g table first fronts front_sets row firsts low none) near
      by x near (inr none) = no_second g table Right leads first second row x
          (nowhere_in g table second backs back_sets row seconds low none) near

pairs_by : (leads : Bool) (size : ℕ) (fronts backs : List Bool) (f h : ℕ → Bool) (x : ℕ) → x < SIDE_LIMIT →
    AreWhere f fronts → AreWhere h backs →
    is_paired leads size fronts backs x ≡ ((λ (own other : ℕ →
    Bool). own x && list_any (λ o. is_apart leads size x o && other o) all)
    (elim leads [ true ↦ f | false ↦ h ]) (elim leads [ true ↦ h | false ↦ f ]))
pairs_by true size fronts backs f h x low firsts seconds =
    ap₂ (λ (a b : Bool). a && b) (firsts.at x low)
    (any_agree (λ o. is_apart true size x o && column_at backs o) (λ o. is_apart true size x o && h o) 0 SIDE_LIMIT
    (λ o near far. ap (λ (b : Bool). is_apart true size x o && b) (seconds.at o (omega (arith, far)))))
pairs_by false size fronts backs f h x low firsts seconds =
    ap₂ (λ (a b : Bool). a && b) (seconds.at x low)
    (any_agree (λ o. is_apart false size x o && column_at fronts o) (λ o. is_apart false size x o && f o) 0 SIDE_LIMIT
    (λ o near far. ap (λ (b : Bool). is_apart false size x o && b) (firsts.at o (omega (arith, far)))))

target_by : (g : Grid) (table : Option (List ℕ)) (leads : Bool) (first second : List CompiledCell) (row x : ℕ) →
    ((λ (own other : ℕ → Bool). own x && list_any (λ o. is_apart leads (length first) x o && other o) all)
    (elim leads [ true ↦ begins_on g table Right row first | false ↦ begins_on g table Right row second ])
    (elim leads [ true ↦ begins_on g table Right row second | false ↦ begins_on g table Right row first ]))
    ≡ target_at g table Right leads first second row x
target_by g table true first second row x = refl
target_by g table false first second row x = refl

pub across-targets : (g : Grid) (table : Option (List ℕ)) (leads : Bool) (first second : List CompiledCell)
    (size row : ℕ)
    (fronts backs columns : List Bool) → IsGrid g → row < g.height → 0 < length first → 0 < length second →
    size ≡ length first →
    AreWhere (part_fits g table Right row first) fronts →
    AreWhere (part_fits g table Right row second) backs →
    AreWhere (is_paired leads size fronts backs) columns → AreWhere
    (target_at g table Right leads first second row) columns
across-targets g table leads first second size row fronts backs columns grid low some more long firsts seconds are =
    record {
      at = λ x near.
          are.at x near
          ∙ ap (λ (n : ℕ). is_paired leads n fronts backs x) long
          ∙ pairs_by leads (length first) fronts backs (begins_on g table Right row first)
          (begins_on g table Right row second) x near
          (begins-are g table first row fronts grid low some firsts)
          (begins-are g table second row backs grid low more seconds)
          ∙ target_by g table leads first second row x;
    }

-- parts that go down --------------------------------------------------------------------------------------------------

-- the rows from one on below another are done
pub record AreRowsFound (g : Grid) (table : Option (List ℕ)) (leads : Bool) (first second : List CompiledCell)
    (rows : List Bool) (starts : List (List Bool)) (from to : ℕ) : Type 0 where
  pub at : (row : ℕ) → from ≤ row → row < to → row < g.height →
      IsRowOfTargets g table Down leads first second rows starts row

-- the columns in which the first part begins, so long that it ends above a row
pub record AreSeenAbove (g : Grid) (table : Option (List ℕ)) (first : List CompiledCell) (size : ℕ)
    (seen : List Bool) (row : ℕ) : Type 0 where
  pub at : (x : ℕ) → x < SIDE_LIMIT → column_at seen x ≡ list_any (λ q. nat_lt
      (q + size) row && begins_down g table first q x) all

-- those in which the second begins so many rows below a row or lower
pub record AreSeenBelow (g : Grid) (table : Option (List ℕ)) (second : List CompiledCell) (size : ℕ)
    (seen : List Bool) (row : ℕ) : Type 0 where
  pub at : (x : ℕ) → x < SIDE_LIMIT → column_at seen x ≡ list_any (λ q. nat_le
      (row + size) q && begins_down g table second q x) all

pub above-init : (g : Grid) (table : Option (List ℕ)) (first : List CompiledCell) (size : ℕ) (seen : List Bool) →
    seen ≡ no_columns →
    AreSeenAbove g table first size seen size
above-init g table first size seen e =
    record {
      at = λ x low.
          none_has seen x e
          ∙ sym (any_none (λ q. nat_lt (q + size) size && begins_down g table first q x) 0 SIDE_LIMIT
          (λ q near far. let past : size ≤ q + size = omega arith in
          ap (λ (b : Bool). b && begins_down g table first q x) (le-ltb (q + size) size past)));
    }

none_or : (b : Bool) → b ≡ (false || b)
none_or b = refl

one_above : (b : ℕ → Bool) (size row k : ℕ) → size ≤ row →
    (nat_lt (k + size) (row + 1) && b k) ≡ ((nat_lt (k + size) row && b k) || (nat_eq k (row - size) && b k))
one_above b size row k far = elim (cases_eq k (row - size)) [
  | inl same ↦
      let here : k + size ≡ row = omega (arith, same, far) in
      let low : k + size < row + 1 = omega (arith, here) in
      let high : row ≤ k + size = omega (arith, here) in
      ap (λ (t : Bool). t && b k) (lt-ltb (k + size) (row + 1) low)
      ∙ sym (ap₂ (λ (s t : Bool). (s && b k) || (t && b k)) (le-ltb (k + size) row high) (eq-eqb k (row - size) same))
  | inr other ↦
      let apart : k + size ≢ row = λ e. other (let is : k ≡ row - size = omega (arith, e) in is) in
      ap (λ (t : Bool). t && b k) (lt_next (k + size) row apart)
      ∙ sym (ap (λ (t : Bool). (nat_lt (k + size) row && b k) || (t && b k)) (ne_eqb k (row - size) other)
      ∙ or-false (nat_lt (k + size) row && b k))
]

pub above-more : (g : Grid) (table : Option (List ℕ)) (first : List CompiledCell) (size row start : ℕ)
    (seen begun more : List Bool) →
    size ≤ row → row < SIDE_LIMIT → start ≡ row - size → AreWhere (begins_down g table first start) begun →
    more ≡ either_columns seen begun →
    AreSeenAbove g table first size seen row → AreSeenAbove g table first size more (row + 1)
above-more g table first size row start seen begun more far low place are e seen_above =
    record {
      at = λ x near.
          let b : ℕ → Bool = λ q. begins_down g table first q x in
          ap (λ (cs : List Bool). column_at cs x) e
          ∙ column_at-where (λ y. column_at seen y || column_at begun y) x near
          ∙ ap₂ (λ (s t : Bool). s || t) (seen_above.at x near)
          (are.at x near ∙ ap b place ∙ sym (any_one b (row - size) 0 SIDE_LIMIT (omega arith) (omega (arith, low))))
          ∙ sym (any-either (λ q. nat_lt (q + size) row && b q) (λ q. nat_eq q (row - size) && b q) all)
          ∙ sym (any-alike (λ q. nat_lt (q + size) (row + 1) && b q) (λ q. (nat_lt (q + size) row && b q) ||
          (nat_eq q (row - size) && b q)) all
          (λ q. one_above b size row q far));
    }

lt_is_le : (a b : ℕ) → nat_lt a (b + 1) ≡ nat_le a b
lt_is_le a b =
    same_tests (nat_lt a (b + 1)) (nat_le a b)
    (λ t. let low : a ≤ b = let l : a < b + 1 = grind (arith, nat_tests, t) in omega (arith, l) in grind
    (arith, nat_tests, low))
    (λ t. let low : a < b + 1 = let l : a ≤ b = grind (arith, nat_tests, t) in omega (arith, l) in lt-ltb a (b + 1) low)

-- two parts that begin in a column of the board
both_begun : (on : Bool) (own : Bool) (near far f : ℕ → Bool) → ((q : ℕ) → near q ≡ far q) →
    ((on && own) && list_any (λ q. near q && (on && f q)) all) ≡ (on && (own && list_any (λ q. far q && f q) all))
both_begun true own near far f same =
    ap (λ (b : Bool). own && b) (any-alike (λ q. near q && f q) (λ q. far q && f q) all (λ q. ap (λ
    (b : Bool). b && f q) (same q)))
both_begun false own near far f same = refl

pub below-targets : (g : Grid) (table : Option (List ℕ)) (first second : List CompiledCell) (size row : ℕ)
    (own seen columns : List Bool) →
    size ≡ length first → AreWhere (begins_down g table second row) own →
    AreSeenAbove g table first size seen (row + 1) →
    columns ≡ both_columns own seen → AreWhere (target_at g table Down false first second row) columns
below-targets g table first second size row own seen columns long are seen_above e =
    record {
      at = λ x near.
          ap (λ (cs : List Bool). column_at cs x) e
          ∙ column_at-where (λ y. column_at own y && column_at seen y) x near
          ∙ ap₂ (λ (s t : Bool). s && t) (are.at x near) (seen_above.at x near)
          ∙ both_begun (nat_lt x g.width) (begins_on g table Down x second row) (λ q. nat_lt (q + size) (row + 1))
          (λ q. nat_le (q + length first) row)
          (λ q. begins_on g table Down x first q)
          (λ q. lt_is_le (q + size) row ∙ ap (λ (n : ℕ). nat_le (q + n) row) long);
    }

-- no row above has room for the first part
not_so_high : (row q n : ℕ) → row < n → nat_le (q + n) row ≡ false
not_so_high row q n low = let past : row < q + n = omega (arith, low) in grind (arith, nat_tests, past)

pub below-init : (g : Grid) (table : Option (List ℕ)) (first second : List CompiledCell) (size : ℕ)
    (rows : List Bool) (starts : List (List Bool)) →
    size ≡ length first → rows ≡ no_columns → AreRowsFound g table false first second rows starts 0 size
below-init g table first second size rows starts long e =
    record {
      at = λ row from low on.
          record {
            at = λ x near.
                not_kept rows starts row e x
                ∙ sym (ap (λ (b : Bool). nat_lt x g.width && (begins_on g table Down x second row && b))
                (any_none (λ q. is_apart false (length first) row q && begins_on g table Down x first q) 0 SIDE_LIMIT
                (λ q low_q far. ap (λ (b : Bool). b && begins_on g table Down x first q) (not_so_high row q
                (length first) (omega (arith, low, long)))))
                ∙ ap (λ (b : Bool). nat_lt x g.width && b) (and-false (begins_on g table Down x second row))
                ∙ and-false (nat_lt x g.width));
          };
    }

-- one row more, below those that are done or above them
pub below-more : (g : Grid) (table : Option (List ℕ)) (first second : List CompiledCell) (rows : List Bool)
    (old : List (List Bool)) (row : ℕ)
    (columns more : List Bool) (new : List (List Bool)) → IsGrid g → IsRowKept rows old row columns more new →
    AreWhere (target_at g table Down false first second row) columns →
    AreRowsFound g table false first second rows old 0 row →
    AreRowsFound g table false first second more new 0 (row + 1)
below-more g table first second rows old row columns more new grid kept are found =
    record {
      at = λ other from low on. elim (cases_eq other row) [
        | inl same ↦ rw same (row-here g table Down false first second rows old row columns more new kept are)
        | inr apart ↦
            row-other g table Down false first second rows old row columns more new other kept (omega
            (arith, on, grid.rows)) apart
            (found.at other from (omega (arith, low, apart)) on)
      ];
    }

pub above-found : (g : Grid) (table : Option (List ℕ)) (first second : List CompiledCell) (rows : List Bool)
    (old : List (List Bool)) (row : ℕ)
    (columns more : List Bool) (new : List (List Bool)) → IsGrid g → IsRowKept rows old row columns more new →
    AreWhere (target_at g table Down true first second row) columns →
    AreRowsFound g table true first second rows old (row + 1) g.height →
    AreRowsFound g table true first second more new row g.height
above-found g table first second rows old row columns more new grid kept are found =
    record {
      at = λ other from low on. elim (cases_eq other row) [
        | inl same ↦ rw same (row-here g table Down true first second rows old row columns more new kept are)
        | inr apart ↦
            row-other g table Down true first second rows old row columns more new other kept (omega
            (arith, on, grid.rows)) apart
            (found.at other (omega (arith, from, apart)) low on)
      ];
    }

pub above-none : (g : Grid) (table : Option (List ℕ)) (first second : List CompiledCell) (rows : List Bool)
    (starts : List (List Bool)) →
    AreRowsFound g table true first second rows starts g.height g.height
above-none g table first second rows starts = record { at = λ row from low on. absurd (omega (arith, from, low)) }

seen_none_by : (g : Grid) (table : Option (List ℕ)) (second : List CompiledCell) (size q x : ℕ) (b : Bool) →
    0 < length second →
    nat_le (g.height + size) q ≡ b → (b && begins_down g table second q x) ≡ false
seen_none_by g table second size q x true some t =
    let far : g.height + size ≤ q = grind (arith, nat_tests, t) in below_edge g table second x q some (omega
    (arith, far))
seen_none_by g table second size q x false some t = refl

pub seen-init : (g : Grid) (table : Option (List ℕ)) (second : List CompiledCell) (size : ℕ) (seen : List Bool) →
    0 < length second → seen ≡ no_columns →
    AreSeenBelow g table second size seen g.height
seen-init g table second size seen some e =
    record {
      at = λ x low.
          none_has seen x e
          ∙ sym (any_none (λ q. nat_le (g.height + size) q && begins_down g table second q x) 0 SIDE_LIMIT
          (λ q near far. seen_none_by g table second size q x (nat_le (g.height + size) q) some refl));
    }

le_apart : (a k : ℕ) → k ≢ a → nat_le a k ≡ nat_le (a + 1) k
le_apart a k other =
    same_tests (nat_le a k) (nat_le (a + 1) k)
    (λ t. let low : a + 1 ≤ k = let l : a ≤ k = grind (arith, nat_tests, t) in omega (arith, l, other) in grind
    (arith, nat_tests, low))
    (λ t. let low : a ≤ k = let l : a + 1 ≤ k = grind (arith, nat_tests, t) in omega (arith, l) in grind
    (arith, nat_tests, low))

le_past : (a k : ℕ) → k ≡ a → nat_le (a + 1) k ≡ false
le_past a k same = let past : k < a + 1 = omega (arith, same) in grind (arith, nat_tests, past)

le_same : (a k : ℕ) → k ≡ a → nat_le a k ≡ true
le_same a k same = let low : a ≤ k = omega (arith, same) in grind (arith, nat_tests, low)

one_below : (b : ℕ → Bool) (a k : ℕ) → (nat_le a k && b k) ≡ ((nat_le (a + 1) k && b k) || (nat_eq k a && b k))
one_below b a k = elim (cases_eq k a) [
  | inl same ↦
      ap (λ (t : Bool). t && b k) (le_same a k same)
      ∙ sym (ap₂ (λ (s t : Bool). (s && b k) || (t && b k)) (le_past a k same) (eq-eqb k a same))
  | inr other ↦
      ap (λ (t : Bool). t && b k) (le_apart a k other)
      ∙ sym (ap (λ (t : Bool). (nat_le (a + 1) k && b k) || (t && b k)) (ne_eqb k a other) ∙ or-false (nat_le
      (a + 1) k && b k))
]

-- one of a column, also beyond the last row
one_or_none : (b : ℕ → Bool) (a : ℕ) → (SIDE_LIMIT ≤ a → b a ≡ false) → b a ≡ list_any (λ k. nat_eq k a && b k) all
one_or_none b a none = elim (cases_lt a SIDE_LIMIT) [
  | inl low ↦ sym (any_one b a 0 SIDE_LIMIT (omega arith) (omega (arith, low)))
  | inr far ↦
      none far
      ∙ sym (any_none (λ k. nat_eq k a && b k) 0 SIDE_LIMIT
      (λ k near high. let other : k ≢ a = omega (arith, far, high) in ap (λ (t : Bool). t && b k) (ne_eqb k a other)))
]

pub seen-more : (g : Grid) (table : Option (List ℕ)) (second : List CompiledCell) (size row before start : ℕ)
    (seen begun more : List Bool) → IsGrid g →
    0 < length second → before ≡ row + 1 → start ≡ row + size → AreWhere (begins_down g table second start) begun →
    more ≡ either_columns seen begun →
    AreSeenBelow g table second size seen before → AreSeenBelow g table second size more row
seen-more g table second size row before start seen begun more grid some step place are e seen_below =
    record {
      at = λ x near.
          let b : ℕ → Bool = λ q. begins_down g table second q x in
          let next : before + size ≡ row + size + 1 = omega (arith, step) in
          ap (λ (cs : List Bool). column_at cs x) e
          ∙ column_at-where (λ y. column_at seen y || column_at begun y) x near
          ∙ ap₂ (λ (s t : Bool). s || t)
          (seen_below.at x near ∙ ap (λ (n : ℕ). list_any (λ q. nat_le n q && b q) all) next)
          (are.at x near ∙ ap b place ∙ one_or_none b (row + size) (λ far. below_edge g table second x
          (row + size) some (omega (arith, far, grid.rows))))
          ∙ sym (any-either (λ q. nat_le (row + size + 1) q && b q) (λ q. nat_eq q (row + size) && b q) all)
          ∙ sym (any-alike (λ q. nat_le (row + size) q && b q) (λ q. (nat_le (row + size + 1) q && b q) || (nat_eq q
          (row + size) && b q)) all
          (λ q. one_below b (row + size) q));
    }

pub above-targets : (g : Grid) (table : Option (List ℕ)) (first second : List CompiledCell) (size row : ℕ)
    (own seen columns : List Bool) →
    size ≡ length first → AreWhere (begins_down g table first row) own → AreSeenBelow g table second size seen row →
    columns ≡ both_columns own seen → AreWhere (target_at g table Down true first second row) columns
above-targets g table first second size row own seen columns long are seen_below e =
    record {
      at = λ x near.
          ap (λ (cs : List Bool). column_at cs x) e
          ∙ column_at-where (λ y. column_at own y && column_at seen y) x near
          ∙ ap₂ (λ (s t : Bool). s && t) (are.at x near) (seen_below.at x near)
          ∙ both_begun (nat_lt x g.width) (begins_on g table Down x first row) (λ q. nat_le (row + size) q)
          (λ q. nat_le (row + length first) q)
          (λ q. begins_on g table Down x second q)
          (λ q. ap (λ (n : ℕ). nat_le (row + n) q) long);
    }

-- a first part that is too long ---------------------------------------------------------------------------------------

too_long : (leads : Bool) (size own other : ℕ) → SIDE_LIMIT ≤ size → own < SIDE_LIMIT → other < SIDE_LIMIT →
    is_apart leads size own other ≡ false
too_long true size own other long low far = let past : other < own + size = omega (arith, long, far) in grind
    (arith, nat_tests, past)
too_long false size own other long low far = let past : own < other + size = omega (arith, long, low) in grind
    (arith, nat_tests, past)

no_partner : (g : Grid) (table : Option (List ℕ)) (axis : Axis) (leads : Bool) (first second : List CompiledCell)
    (line position : ℕ) →
    SIDE_LIMIT ≤ length first → position < SIDE_LIMIT → is_target g table axis leads first second line position ≡ false
no_partner g table axis leads first second line position long low =
    ap (λ (b : Bool). begins_on g table axis line (own_part leads first second) position && b)
    (any_none (λ o. is_apart leads (length first) position o && begins_on g table axis line
    (other_part leads first second) o) 0 SIDE_LIMIT
    (λ o near far. ap (λ (b : Bool). b && begins_on g table axis line (other_part leads first second) o)
    (too_long leads (length first) position o long low (omega (arith, far)))))
    ∙ and-false (begins_on g table axis line (own_part leads first second) position)

none_at : (g : Grid) (table : Option (List ℕ)) (axis : Axis) (leads : Bool) (first second : List CompiledCell)
    (row x : ℕ) →
    SIDE_LIMIT ≤ length first → row < SIDE_LIMIT → x < SIDE_LIMIT →
    target_at g table axis leads first second row x ≡ false
none_at g table Down leads first second row x long low near =
    ap (λ (b : Bool). nat_lt x g.width && b) (no_partner g table Down leads first second x row long low) ∙ and-false
    (nat_lt x g.width)
none_at g table Right leads first second row x long low near = no_partner g table Right leads first second row x long
    near

pub none-kept : (g : Grid) (table : Option (List ℕ)) (axis : Axis) (leads : Bool) (first second : List CompiledCell)
    (rows : List Bool)
    (starts : List (List Bool)) → IsGrid g → SIDE_LIMIT ≤ length first → rows ≡ no_columns →
    AreTargets g table axis leads first second rows starts
none-kept g table axis leads first second rows starts grid long e =
    record {
      each = λ row low.
          record {
            at = λ x near. not_kept rows starts row e x ∙ sym (none_at g table axis leads first second row x long
                (omega (arith, low, grid.rows)) near);
          };
      kept = kept-none g.height rows starts e;
    }

-- a part that begins on no row begins on no line ----------------------------------------------------------------------

line_of_none : (g : Grid) (table : Option (List ℕ)) (axis : Axis) (part : List CompiledCell) (own : List Bool)
    (columns : List (List Bool)) (line : ℕ) → IsGrid g → 0 < length part → AreStarts g table axis part own columns →
    set_columns own ≡ [] → line < line_count axis g → BeginsNowhere g table axis part line
line_of_none g table Right part own columns line grid some are none low =
    nowhere_in g table part own columns line are low (none_in own line none (omega (arith, low, grid.rows)))
line_of_none g table Down part own columns line grid some are none low =
    record {
      at = λ y near.
          let across : nat_lt line g.width ≡ true = grind (arith, nat_tests, low) in
          ap (λ (b : Bool). b && begins_on g table Down line part y) (sym across)
          ∙ elim (cases_lt y g.height) [
            | inl high ↦
                sym ((are.each y high).at line (omega (arith, low, grid.columns)))
                ∙ ap (λ (b : Bool). b && column_at (columns_on columns y) line) (none_in own y none near)
            | inr deep ↦ below_edge g table part line y some deep
          ];
    }

-- so no target is found, whichever of the two parts it is
without_first : (g : Grid) (table : Option (List ℕ)) (axis : Axis) (leads : Bool) (first second : List CompiledCell)
    (row x : ℕ) → row < SIDE_LIMIT → x < SIDE_LIMIT → row < g.height →
    ((line : ℕ) → line < line_count axis g → BeginsNowhere g table axis first line) →
    target_at g table axis leads first second row x ≡ false
without_first g table Right leads first second row x high near low none =
    no_first g table Right leads first second row x (none row low) near
without_first g table Down leads first second row x high near low none = by (nat_lt x g.width) refl where
  by : (here : Bool) → nat_lt x g.width ≡ here →
      (nat_lt x g.width && is_target g table Down leads first second x row) ≡ false
  by true t =
      let across : x < g.width = grind (arith, nat_tests, t) in
      ap (λ (b : Bool). nat_lt x g.width && b) (no_first g table Down leads first second x row (none x across) high)
      ∙ and-false (nat_lt x g.width)
  by false t = ap (λ (b : Bool). b && is_target g table Down leads first second x row) t

without_second : (g : Grid) (table : Option (List ℕ)) (axis : Axis) (leads : Bool) (first second : List CompiledCell)
    (row x : ℕ) → row < SIDE_LIMIT → x < SIDE_LIMIT → row < g.height →
    ((line : ℕ) → line < line_count axis g → BeginsNowhere g table axis second line) →
    target_at g table axis leads first second row x ≡ false
without_second g table Right leads first second row x high near low none =
    no_second g table Right leads first second row x (none row low) near
without_second g table Down leads first second row x high near low none = by (nat_lt x g.width) refl where
  by : (here : Bool) → nat_lt x g.width ≡ here →
      (nat_lt x g.width && is_target g table Down leads first second x row) ≡ false
  by true t =
      let across : x < g.width = grind (arith, nat_tests, t) in
      ap (λ (b : Bool). nat_lt x g.width && b) (no_second g table Down leads first second x row (none x across) high)
      ∙ and-false (nat_lt x g.width)
  by false t = ap (λ (b : Bool). b && is_target g table Down leads first second x row) t

module _ (g : Grid) (table : Option (List ℕ)) (axis : Axis) (leads : Bool) (first second : List CompiledCell)
    (own rows : List Bool) (columns starts : List (List Bool)) (grid : IsGrid g) (is : rows ≡ no_columns)
    (none : set_columns own ≡ []) where
  pub first-nowhere : 0 < length first → AreStarts g table axis first own columns →
      AreTargets g table axis leads first second rows starts
  first-nowhere some are =
      record {
        each = λ row low. record {
          at = λ x near. not_kept rows starts row is x
              ∙ sym (without_first g table axis leads first second row x (omega (arith, low, grid.rows)) near low
              (λ line within. line_of_none g table axis first own columns line grid some are none within));
        };
        kept = kept-none g.height rows starts is;
      }

  pub second-nowhere : 0 < length second → AreStarts g table axis second own columns →
      AreTargets g table axis leads first second rows starts
  second-nowhere some are =
      record {
        each = λ row low. record {
          at = λ x near. not_kept rows starts row is x
              ∙ sym (without_second g table axis leads first second row x (omega (arith, low, grid.rows)) near low
              (λ line within. line_of_none g table axis second own columns line grid some are none within));
        };
        kept = kept-none g.height rows starts is;
      }
