-- Places before the one that is chosen are left out: those that are left end in the one that is chosen and those behind
-- it.
use Rattle.std.proofs.Common.{◌≡◌, ◌∙◌, ℕ, suc, zero, ◌+◌, ◌-◌, ◌*◌, ◌<◌, ◌≤◌, ◌⊎◌, ◌&&◌, inl, inr, Bool, true, false}
use Rattle.std.proofs.Common.{List, [], ◌∷◌, ◌++◌, length, map, take, drop, get_or, refl, sym, ap, ap₂, arith}
use Rattle.std.specs.Prelude.{filter, nat_le, not, slice_index_or, slice_set}
use Rattle.std.specs.List.{flat_map, range_with_len}
use Rattle.std.proofs.Math.Nat.{mul-le-mul_right}
use Rattle.std.proofs.lemmas.Bool.{and_parts, cases_Bool, cases_lt}
use Rattle.std.proofs.lemmas.Bool.Decides.{nat_tests}
use Rattle.std.proofs.lemmas.Grind.{common_steps, flat_map-append}
use Rattle.std.proofs.lemmas.List.{append_assoc, map-append}
use Rattle.ps_model.specs.declared.limits.TheConstants.{SIDE_LIMIT}
use Rattle.ps_board.specs.ColumnSets.{column_at, columns_below, columns_without, set_columns}
use Rattle.ps_board.proofs.ColumnLaws.{column_at-beyond, column_at-where}
use Rattle.ps_program.specs.declared.cells.CompiledCell.{CompiledCell}
use Rattle.ps_program.specs.declared.rows.Axis.{Axis}
use Rattle.ps_program.specs.declared.rows.CompiledRow.{CompiledRow}
use Rattle.ps_places.specs.Scratch.{Scratch}
use Rattle.ps_places.specs.Forgetting.{HaveForgotten, IsAmong, IsPlaceOf, IsWayOf, first_position}
use Rattle.ps_places.specs.RowPlaces.{all_places, part_sizes, places_behind, places_on, places_on_lines, sets_on}
use Rattle.ps_places.specs.RowPlaces.{way_cells, way_of}
use Rattle.ps_places.specs.Seeking.{place_on, places_after}
use Rattle.ps_places.specs.Ways.{from_first, positions_from, ways_behind, ways_from}
use Rattle.ps_places.proofs.FirstOf.{first-here, first-later}
use Rattle.ps_places.proofs.NextWays.{ways-end}
use Rattle.ps_places.proofs.Positions.{EndsIn, behind-some, filter-kept, filter-left, positions-again, positions-all}
use Rattle.ps_places.proofs.Positions.{positions-are, positions-end, positions-first}
use Rattle.ps_places.proofs.Ranges.{passing-agree}
use Rattle.ps_places.proofs.SeekingPlaces.{front, slice-on}

-- lists that end in others --------------------------------------------------------------------------------------------

module _ {X : Type 0} where
  ends-itself : (xs : List X) → EndsIn xs xs
  ends-itself xs = record { before = []; whole = refl }

  ends-twice : (xs ys zs : List X) → EndsIn xs ys → EndsIn ys zs → EndsIn xs zs
  ends-twice xs ys zs first then = record {
    before = first.before ++ then.before;
    whole = first.whole ∙ ap (λ (l : List X). first.before ++ l) then.whole
        ∙ sym (append_assoc first.before then.before zs);
  }

  ends-behind : (front xs ys : List X) → EndsIn xs ys → EndsIn (front ++ xs) ys
  ends-behind front xs ys ends = ends-twice (front ++ xs) xs ys (record { before = front; whole = refl }) ends

  ends-fewer : (xs ys : List X) → EndsIn xs ys → length ys ≤ length xs
  ends-fewer xs ys ends = rw ends.whole (grind (arith, common_steps))

  first-ends : (kind : X → Bool) (xs : List X) → EndsIn xs (from_first kind xs)
  first-ends kind [] = ends-itself []
  first-ends kind (x ∷ xs) = elim (cases_Bool (kind x)) [
    | inl is ↦ record { before = []; whole = sym (first-here kind x xs is) }
    | inr out ↦ record {
      before = x ∷ (first-ends kind xs).before;
      whole = ap (λ (l : List X). x ∷ l) (first-ends kind xs).whole
          ∙ ap (λ (l : List X). x ∷ ((first-ends kind xs).before ++ l)) (sym (first-later kind x xs out));
    }
  ]

  -- those that are left out are not of the kind, if the first of the kind is left
  longer : (x : X) (front xs : List X) → x ∷ (front ++ xs) ≡ xs → ⊥
  longer x front xs e =
      let long : length (x ∷ (front ++ xs)) ≡ length xs = ap length e in
      let more : length xs ≤ length (front ++ xs) = grind (arith, common_steps) in
      omega (arith, long, more)

  dropped : (kind : X → Bool) (front ys zs : List X) → EndsIn ys zs → from_first kind (front ++ ys) ≡ zs →
      filter kind ys ≡ filter kind (front ++ ys)
  dropped kind [] ys zs ends first = refl
  dropped kind (x ∷ front) ys zs ends first = elim (cases_Bool (kind x)) [
    | inl is ↦
        let most = ends-behind front ys zs ends in
        absurd (longer x most.before zs (ap (λ (l : List X). x ∷ l) (sym most.whole)
        ∙ sym (first-here kind x (front ++ ys) is) ∙ first))
    | inr out ↦
        dropped kind front ys zs ends (sym (first-later kind x (front ++ ys) out) ∙ first)
        ∙ sym (filter-left kind x (front ++ ys) out)
  ]

  pub left-alike : (kind : X → Bool) (xs ys zs : List X) → EndsIn xs ys → EndsIn ys zs → from_first kind xs ≡ zs →
      filter kind ys ≡ filter kind xs
  left-alike kind xs ys zs more ends first =
      dropped kind more.before ys zs ends (ap (from_first kind) (sym more.whole) ∙ first)
      ∙ ap (filter kind) (sym more.whole)

ends-map : {X Y : Type 0} (f : X → Y) (xs ys : List X) (others : List Y) → EndsIn xs ys →
    EndsIn (map f xs ++ others) (map f ys ++ others)
ends-map f xs ys others ends = record {
  before = map f ends.before;
  whole = ap (λ (l : List _). map f l ++ others) ends.whole
      ∙ ap (λ (l : List _). l ++ others) (map-append f ends.before ys)
      ∙ append_assoc (map f ends.before) (map f ys) others;
}

-- positions -----------------------------------------------------------------------------------------------------------

pub positions-here : (set : List Bool) (p : ℕ) → column_at set p ≡ true → p < SIDE_LIMIT →
    positions_from set p ≡ p ∷ positions_from set (p + 1)
positions-here set p is low =
    let long : suc (SIDE_LIMIT - (p + 1)) ≡ SIDE_LIMIT - p = omega (arith, low) in
    positions-are set p (suc (SIDE_LIMIT - (p + 1))) long
    ∙ filter-kept (column_at set) p (range_with_len (p + 1) (SIDE_LIMIT - (p + 1))) is
    ∙ ap (λ (l : List ℕ). p ∷ l) (sym (positions-are set (p + 1) (SIDE_LIMIT - (p + 1)) refl))

-- a way among others --------------------------------------------------------------------------------------------------

-- a list of ways that begin at one position, and others
begins-here : (p : ℕ) (ways others front : List (List ℕ)) (way : List ℕ) (rest : List (List ℕ)) →
    map (λ w. p ∷ w) ways ++ others ≡ front ++ (way ∷ rest) →
    (first_position way ≡ p) ⊎ EndsIn others (way ∷ rest)
begins-here p [] others front way rest e = inr (record { before = front; whole = e })
begins-here p (w ∷ ways) others [] way rest e =
    let same : p ∷ w ≡ way = cc in
    inl (ap first_position (sym same))
begins-here p (w ∷ ways) others (x ∷ front) way rest e =
    let tail : map (λ w. p ∷ w) ways ++ others ≡ front ++ (way ∷ rest) = cc in
    begins-here p ways others front way rest tail

module _ (set : List Bool) (at : ℕ → List (List ℕ)) (way : List ℕ) (rest : List (List ℕ)) where
  abbrev all_at : List ℕ → List (List ℕ)
  all_at ps = flat_map (λ p. map (λ w. p ∷ w) (at p)) ps

  none-ends : (front : List (List ℕ)) → [] ≡ front ++ (way ∷ rest) → ⊥
  none-ends [] e = cc
  none-ends (x ∷ front) e = cc

  from-its-own : (ps : List ℕ) (from : ℕ) → positions_from set from ≡ ps → EndsIn (all_at ps) (way ∷ rest) →
      EndsIn (all_at (positions_from set (first_position way))) (way ∷ rest)
  from-its-own [] from e ends = absurd (none-ends ends.before ends.whole)
  from-its-own (p ∷ ps) from e ends =
      let first = positions-first set from p ps e in
      elim (begins-here p (at p) (all_at ps) ends.before way rest ends.whole) [
        | inl here ↦ record {
          before = ends.before;
          whole = ap (λ (n : ℕ). all_at (positions_from set n)) here
              ∙ ap all_at (positions-here set p first.member first.low)
              ∙ ap (λ (qs : List ℕ). all_at (p ∷ qs)) (sym first.others)
              ∙ ends.whole;
        }
        | inr later ↦ from-its-own ps (p + 1) (sym first.others) later
      ]

own-position : (sets : List (List Bool)) (sizes : List ℕ) (from : ℕ) (way : List ℕ) (rest : List (List ℕ)) →
    EndsIn (ways_from sets sizes from) (way ∷ rest) → EndsIn (ways_from sets sizes (first_position way)) (way ∷ rest)
own-position [] sizes from way rest ends = ends
own-position (set ∷ sets) [] from way rest ends = ends
own-position (set ∷ sets) (size ∷ sizes) from way rest ends =
    from-its-own set (λ p. ways_from sets sizes (p + size)) way rest (positions_from set from) from refl ends

-- the first way of a kind is one of those from its own position on
pub first-is-way : (kind : List ℕ → Bool) (sets : List (List Bool)) (sizes : List ℕ) (way : List ℕ) →
    from_first kind (ways_from sets sizes 0) ≡ way ∷ ways_behind sets sizes way → IsWayOf sets sizes way
first-is-way kind sets sizes way found =
    let some = first-ends kind (ways_from sets sizes 0) in
    let ends = own-position sets sizes 0 way (ways_behind sets sizes way) (record {
      before = some.before;
      whole = some.whole ∙ ap (λ (l : List (List ℕ)). some.before ++ l) found;
    }) in
    record { before = ends.before; whole = ends.whole }

pub first-on-line : (kind : List ℕ → Bool) (parts : List (List CompiledCell)) (starts : List (List Bool)) (line : ℕ)
    (way : List ℕ) →
    from_first kind (ways_from (take (line * length parts + length parts - line * length parts)
    (drop (line * length parts) starts)) (part_sizes parts) 0)
    ≡ way ∷ ways_behind (take (line * length parts + length parts - line * length parts)
    (drop (line * length parts) starts)) (part_sizes parts) way →
    IsWayOf (sets_on starts (length parts) line) (part_sizes parts) way
first-on-line kind parts starts line way found =
    first-is-way kind (sets_on starts (length parts) line) (part_sizes parts) way (rw slice-on at found)

-- the way that is found stands at the front of a room's way
pub among-in-front : (parts : List (List CompiledCell)) (starts : List (List Bool)) (lines : List Bool) (line : ℕ)
    (way rest : List ℕ) → length way ≡ length parts → IsPlaceOf lines starts parts line way →
    IsPlaceOf lines starts parts line (take (length parts) (way ++ rest))
among-in-front parts starts lines line way rest long place = rw (front way rest (length parts) long) place

-- the set of the first part without the positions before one ----------------------------------------------------------

-- one set of a list written
drop-written : {X : Type 0} (xs : List X) (k : ℕ) (y : X) → drop k (slice_set xs k y) ≡ slice_set (drop k xs) 0 y
drop-written [] zero y = refl
drop-written [] (suc k) y = refl
drop-written (x ∷ xs) zero y = refl
drop-written (x ∷ xs) (suc k) y = drop-written xs k y

take-written : {X : Type 0} (xs : List X) (n : ℕ) (y : X) → take n (slice_set xs 0 y) ≡ slice_set (take n xs) 0 y
take-written [] zero y = refl
take-written [] (suc n) y = refl
take-written (x ∷ xs) zero y = refl
take-written (x ∷ xs) (suc n) y = refl

drop-beyond : {X : Type 0} (xs : List X) (k n : ℕ) (y : X) → k < n → drop n (slice_set xs k y) ≡ drop n xs
drop-beyond xs k zero y low = absurd (omega (arith, low))
drop-beyond [] k (suc n) y low = refl
drop-beyond (x ∷ xs) zero (suc n) y low = refl
drop-beyond (x ∷ xs) (suc k) (suc n) y low = drop-beyond xs k n y (omega (arith, low))

sets-here : (starts : List (List Bool)) (count line : ℕ) (set : List Bool) →
    sets_on (slice_set starts (line * count) set) count line ≡ slice_set (sets_on starts count line) 0 set
sets-here starts count line set =
    ap (take count) (drop-written starts (line * count) set) ∙ take-written (drop (line * count) starts) count set

sets-later : (starts : List (List Bool)) (count line other : ℕ) (set : List Bool) → 0 < count → line < other →
    sets_on (slice_set starts (line * count) set) count other ≡ sets_on starts count other
sets-later starts count line other set some later =
    let next : (line + 1) * count ≤ other * count = mul-le-mul_right count
    (let far : line + 1 ≤ other = omega (arith, later) in far) in
    let low : line * count < other * count = omega (arith, next, some) in
    ap (take count) (drop-beyond starts (line * count) (other * count) set low)

-- the ways with it
ways-left : (sets : List (List Bool)) (sizes : List ℕ) (set : List Bool) (p : ℕ) →
    set_columns set ≡ positions_from (slice_index_or sets 0 []) p →
    ways_from (slice_set sets 0 set) sizes 0 ≡ ways_from sets sizes p
ways-left [] sizes set p e = refl
ways-left (old ∷ sets) [] set p e = refl
ways-left (old ∷ sets) (size ∷ sizes) set p e =
    ap (flat_map (λ q. map (λ way. q ∷ way) (ways_from sets sizes (q + size)))) (positions-all set ∙ e)

ways-behind-left : (sets : List (List Bool)) (sizes : List ℕ) (set : List Bool) (way : List ℕ) →
    set_columns set ≡ positions_from (slice_index_or sets 0 []) (first_position way) →
    ways_behind (slice_set sets 0 set) sizes way ≡ ways_behind sets sizes way
ways-behind-left [] sizes set way e = refl
ways-behind-left (old ∷ sets) [] set way e = refl
ways-behind-left (old ∷ sets) (size ∷ sizes) set [] e = refl
ways-behind-left (old ∷ sets) (size ∷ sizes) set (p ∷ way) e =
    ap (λ (ps : List ℕ). map (λ others. p ∷ others) (ways_behind sets sizes way)
    ++ flat_map (λ q. map (λ way. q ∷ way) (ways_from sets sizes (q + size))) ps)
    (positions-again old set p (p + 1) e (omega arith))

-- places --------------------------------------------------------------------------------------------------------------

module _ (axis : Axis) (height : ℕ) (parts : List (List CompiledCell)) (starts : List (List Bool)) (lines : List Bool)
    (line : ℕ) (way : List ℕ) (set : List Bool) (some : 0 < length parts)
    (place : IsPlaceOf lines starts parts line way)
    (left : set_columns set ≡ positions_from (slice_index_or (sets_on starts (length parts) line) 0 [])
    (first_position way)) where
  abbrev fewer_starts : List (List Bool)
  fewer_starts = slice_set starts (line * length parts) set

  abbrev fewer_lines : List Bool
  fewer_lines = columns_without lines (columns_below line)

  abbrev sets : List (List Bool)
  sets = sets_on starts (length parts) line

  abbrev cells : List ℕ → List ℕ
  cells = way_cells axis height line (part_sizes parts)

  abbrev later : List (List ℕ)
  later = places_on_lines axis height parts starts (positions_from lines (line + 1))

  later-alike : places_on_lines axis height parts fewer_starts (positions_from lines (line + 1)) ≡ later
  later-alike =
      passing-agree (places_on axis height parts fewer_starts) (places_on axis height parts starts)
      (λ p. nat_le (line + 1) p) (set_columns lines)
      (λ other test.
      let far : line < other = grind (arith, nat_tests, test) in
      ap (λ (ss : List (List Bool)). map (way_cells axis height other (part_sizes parts))
      (ways_from ss (part_sizes parts) 0)) (sets-later starts (length parts) line other set some far))

  left-on-lines : places_on_lines axis height parts fewer_starts (set_columns fewer_lines)
      ≡ map cells (ways_from sets (part_sizes parts) (first_position way)) ++ later
  left-on-lines =
      ap (places_on_lines axis height parts fewer_starts)
      (behind-some lines line ∙ positions-here lines line place.on place.low)
      ∙ ap₂ (λ (here others : List (List ℕ)). here ++ others)
      (ap (λ (ss : List (List Bool)). map cells (ways_from ss (part_sizes parts) 0))
      (sets-here starts (length parts) line set)
      ∙ ap (map cells) (ways-left sets (part_sizes parts) set (first_position way) left))
      later-alike

  all-on-lines : EndsIn (places_on_lines axis height parts starts (set_columns lines))
      (map cells (ways_from sets (part_sizes parts) (first_position way)) ++ later)
  all-on-lines =
      let ends = positions-end lines 0 line (omega arith) in
      let whole : places_on_lines axis height parts starts (set_columns lines)
      ≡ places_on_lines axis height parts starts ends.before
      ++ (map cells (ways_from sets (part_sizes parts) 0) ++ later) =
      ap (places_on_lines axis height parts starts) (sym (positions-all lines) ∙ ends.whole
      ∙ ap (λ (l : List ℕ). ends.before ++ l) (positions-here lines line place.on place.low))
      ∙ flat_map-append (places_on axis height parts starts) ends.before (line ∷ positions_from lines (line + 1)) in
      let more = ends-behind (places_on_lines axis height parts starts ends.before)
      (map cells (ways_from sets (part_sizes parts) 0) ++ later)
      (map cells (ways_from sets (part_sizes parts) (first_position way)) ++ later)
      (ends-map cells (ways_from sets (part_sizes parts) 0) (ways_from sets (part_sizes parts) (first_position way))
      later
      (ways-end sets (part_sizes parts) 0 (first_position way) (omega arith))) in
      record { before = more.before; whole = whole ∙ more.whole }

  -- the places that are left end those of before
  pub left-of-all : EndsIn (places_on_lines axis height parts starts (set_columns lines))
      (places_on_lines axis height parts fewer_starts (set_columns fewer_lines))
  left-of-all = record {
    before = all-on-lines.before;
    whole = all-on-lines.whole ∙ ap (λ (l : List (List ℕ)). all-on-lines.before ++ l) (sym left-on-lines);
  }

  -- and end in the place that is chosen and those behind it
  pub chosen-left : EndsIn (places_on_lines axis height parts fewer_starts (set_columns fewer_lines))
      (place_on axis height parts line way ∷ places_after axis height parts starts lines line way)
  chosen-left =
      let ends = ends-map cells (ways_from sets (part_sizes parts) (first_position way))
      (way ∷ ways_behind sets (part_sizes parts) way) later
      (record { before = (place.among).before; whole = (place.among).whole }) in
      record { before = ends.before; whole = left-on-lines ∙ ends.whole }

  -- these are as before
  pub behind-alike : places_after axis height parts fewer_starts fewer_lines line way
      ≡ places_after axis height parts starts lines line way
  behind-alike =
      ap₂ (λ (here others : List (List ℕ)). here ++ others)
      (ap (λ (ss : List (List Bool)). map cells (ways_behind ss (part_sizes parts) way))
      (sets-here starts (length parts) line set)
      ∙ ap (map cells) (ways-behind-left sets (part_sizes parts) set way left))
      (ap (places_on_lines axis height parts fewer_starts)
      (positions-again lines fewer_lines line (line + 1) (behind-some lines line) (omega arith))
      ∙ later-alike)

  pub no-more : length (places_on_lines axis height parts fewer_starts (set_columns fewer_lines))
      ≤ length (places_on_lines axis height parts starts (set_columns lines))
  no-more = ends-fewer (places_on_lines axis height parts starts (set_columns lines))
      (places_on_lines axis height parts fewer_starts (set_columns fewer_lines)) left-of-all

  pub fitting-alike : (fits : List ℕ → Bool) →
      from_first fits (places_on_lines axis height parts starts (set_columns lines))
      ≡ place_on axis height parts line way ∷ places_after axis height parts starts lines line way →
      filter fits (places_on_lines axis height parts fewer_starts (set_columns fewer_lines))
      ≡ filter fits (places_on_lines axis height parts starts (set_columns lines))
  fitting-alike fits first =
      left-alike fits (places_on_lines axis height parts starts (set_columns lines))
      (places_on_lines axis height parts fewer_starts (set_columns fewer_lines))
      (place_on axis height parts line way ∷ places_after axis height parts starts lines line way)
      left-of-all chosen-left first

-- the room of a row ---------------------------------------------------------------------------------------------------

pub first-set : (starts : List (List Bool)) (count k : ℕ) (set d : List Bool) → 0 < count → k < length starts →
    set ≡ get_or starts k d → slice_index_or (take count (drop k starts)) 0 [] ≡ set
first-set [] count k set d some low e = absurd (omega (arith, low))
first-set (x ∷ starts) zero k set d some low e = absurd (omega (arith, some))
first-set (x ∷ starts) (suc count) zero set d some low e = sym e
first-set (x ∷ starts) (suc count) (suc k) set d some low e =
    first-set starts (suc count) k set d some (omega (arith, low)) e

pub first-of-way : (way : List ℕ) (count : ℕ) → 0 < count → first_position (take count way) ≡ slice_index_or way 0 0
first-of-way way zero some = absurd (omega (arith, some))
first-of-way [] (suc count) some = refl
first-of-way (p ∷ way) (suc count) some = refl

without-fewer : (lines others : List Bool) (x : ℕ) → column_at (columns_without lines others) x ≡ true →
    column_at lines x ≡ true
without-fewer lines others x is = elim (cases_lt x SIDE_LIMIT) [
  | inl low ↦ (and_parts (column_at lines x) (not (column_at others x))
      (sym (column_at-where (λ y. column_at lines y && not (column_at others y)) x low) ∙ is)).0
  | inr far ↦ let clash : false ≡ true = sym (column_at-beyond
      (λ y. column_at lines y && not (column_at others y)) x far) ∙ is in absurd (cc)
]

pub forgotten : (height : ℕ) (row : CompiledRow) (old new : Scratch) (set : List Bool) → IsAmong row old →
    set_columns set ≡ positions_from (slice_index_or (sets_on old.starts.items (length row.parts) old.line) 0 [])
    (first_position (way_of row old)) →
    new.lines ≡ columns_without old.lines (columns_below old.line) →
    new.starts.items ≡ slice_set old.starts.items (old.line * length row.parts) set →
    new.line ≡ old.line → new.way ≡ old.way → HaveForgotten height row old new
forgotten height row old new set among left lines starts line way =
    let some : 0 < length row.parts = row.some in
    let all : all_places height row new ≡ places_on_lines row.axis height row.parts
    (slice_set old.starts.items (old.line * length row.parts) set)
    (set_columns (columns_without old.lines (columns_below old.line))) =
    ap₂ (λ (ss : List (List Bool)) (ls : List Bool). places_on_lines row.axis height row.parts ss (set_columns ls))
    starts lines in
    let from : (ss : List (List Bool)) (ls : List Bool) (l : ℕ) (w : List ℕ) → new.starts.items ≡ ss →
    new.lines ≡ ls → new.line ≡ l → new.way ≡ w → places_behind height row new
    ≡ places_after row.axis height row.parts ss ls l (take (length row.parts) w) =
    λ ss ls l w e d f h. rw (e, d, f, h) refl in
    record {
      at = ap₂ (λ (l : ℕ) (w : List ℕ). place_on row.axis height row.parts l (take (length row.parts) w)) line way;
      later = from _ _ _ _ starts lines line way
          ∙ behind-alike row.axis height row.parts old.starts.items old.lines old.line
          (way_of row old) set some among left;
      line = line;
      way = way;
      lines = λ x is. without-fewer old.lines (columns_below old.line) x
          (sym (ap (λ (ls : List Bool). column_at ls x) lines) ∙ is);
      fewer = rw all (no-more row.axis height row.parts old.starts.items old.lines old.line (way_of row old) set some
          among left);
      fitting = λ fits first. ap (filter fits) all
          ∙ fitting-alike row.axis height row.parts old.starts.items old.lines old.line (way_of row old) set some among
          left fits first;
    }
