-- Planes that were copied, or cleared, one behind the other.
use Rattle.std.proofs.Common.{◌≡◌, ◌∙◌, ℕ, ◌+◌, ◌-◌, ◌*◌, ◌/◌, ◌%◌, ◌<◌, ◌≤◌, ◌++◌, inl, inr, false, List, [], length}
use Rattle.std.proofs.Common.{take, drop, replicate, refl, sym, ap, arith, Bool, subst}
use borrow.Rule.Slice.PartMut.{put_mid}
use Rattle.std.specs.Prelude.{slice_set}
use Rattle.std.proofs.Math.Nat.{mul-le-mul_left}
use Rattle.std.proofs.lemmas.Bool.{cases_eq, cases_lt}
use Rattle.std.proofs.lemmas.Nat.{div_below, mod_below, div-add-mod'}
use Rattle.std.proofs.lemmas.List.{same_lists, get_or_default, get_or-set_same, get_or-set_other, length-take-le}
use Rattle.std.proofs.lemmas.List.{get_or_append_left, get_or-append_right, get_or-take, get_or-drop, length-append}
use Rattle.std.proofs.lemmas.List.{get_or_past, length-replicate}
use Rattle.ps_rows.specs.PlaneCopies.{AreCopied, ArePlanesOf, AreRowsOf}
use Rattle.ps_rows.specs.RowIndex.{AreRowsMarked}
use Rattle.ps_rows.specs.Sameness.{DifferOnlyOnRows}
use Rattle.ps_rows.specs.Showing.{cleared_from}
use Rattle.ps_rows.proofs.Rests.{blank_word}
use Rattle.ps_rows.proofs.Sets.{none_at}
use Rattle.ps_board.proofs.ColumnLaws.{none_in}
use Rattle.ps_board.specs.ColumnSets.{column_at, no_columns, set_columns}
use Rattle.ps_model.specs.declared.limits.TheConstants.{SIDE_LIMIT}
use Rattle.ps_rows.specs.Planes.{AreEmptyFrom, AreSameFrom, AreSets, IsSet, row_of}

-- a row of a plane lies before the next plane
before_plane : (height plane other row : ℕ) → row < height → plane < other → plane * height + row < other * height
before_plane height plane other row under less =
    let more : height * (plane + 1) ≤ height * other =
    mul-le-mul_left height (let next : plane + 1 ≤ other = omega arith in next) in
    omega arith

pub behind_plane : (height plane other : ℕ) → plane ≤ other → plane * height ≤ other * height
behind_plane height plane other less = let more : height * plane ≤ height * other = mul-le-mul_left height less in
    omega arith

-- a part that is written over a plane
pub plane_overwritten : (height plane : ℕ) (source part before : List (List Bool)) → length part ≡ height →
    (plane + 1) * height ≤ length before →
    ((row : ℕ) → row < height → row_of part row ≡ row_of source (plane * height + row)) →
    ArePlanesOf height plane (plane + 1) source before (put_mid (plane * height) height before part)
plane_overwritten height plane source part before long enough same =
    let start : ℕ = plane * height in
    let rest : List (List Bool) = drop height (drop start before) in
    let within : start ≤ length before = omega arith in
    let front : length (take start before) ≡ start = length-take-le start before within in
    record {
      below = λ o row under less.
          let place : o * height + row < start = before_plane height o plane row under less in
          let inside : o * height + row < length (take start before) = rw front place in
          get_or_append_left (take start before) (part ++ rest) no_columns (o * height + row) inside
          ∙ get_or-take start before (o * height + row) no_columns place;
      behind = λ o row under more.
          let past : (plane + 1) * height ≤ o * height = behind_plane height (plane + 1) o more in
          let place : start ≤ o * height + row = omega arith in
          let beyond : length part ≤ o * height + row - start = omega arith in
          let back : start + (height + (o * height + row - start - length part)) ≡ o * height + row = omega arith in
          get_or-append_right (take start before) (part ++ rest) start (o * height + row) no_columns front place
          ∙ get_or-append_right part rest (length part) (o * height + row - start) no_columns refl beyond
          ∙ get_or-drop height (drop start before) (o * height + row - start - length part) no_columns
          ∙ get_or-drop start before (height + (o * height + row - start - length part)) no_columns
          ∙ ap (λ (i : ℕ). row_of before i) back;
      copied = λ o row under low high.
          let e : o ≡ plane = omega arith in
          let place : start ≤ start + row = omega arith in
          let inside : row < length part = omega arith in
          let back : start + row - start ≡ row = omega arith in
          rw e
          (get_or-append_right (take start before) (part ++ rest) start (start + row) no_columns front place
          ∙ ap (λ (i : ℕ). row_of (part ++ rest) i) back
          ∙ get_or_append_left part rest no_columns row inside ∙ same row under);
    }

-- a part that is written over some sets
pub sets_overwritten : (first count : ℕ) (source part before : List (List Bool)) → length part ≡ count →
    first + count ≤ length before →
    ((i : ℕ) → i < count → row_of part i ≡ row_of source (first + i)) →
    AreCopied first (first + count) source before (put_mid first count before part)
sets_overwritten first count source part before long enough same =
    let rest : List (List Bool) = drop count (drop first before) in
    let within : first ≤ length before = omega (arith, enough) in
    let front : length (take first before) ≡ first = length-take-le first before within in
    record {
      below = λ place less.
          let inside : place < length (take first before) = rw front less in
          get_or_append_left (take first before) (part ++ rest) no_columns place inside
          ∙ get_or-take first before place no_columns less;
      behind = λ place more.
          let from : first ≤ place = omega (arith, more) in
          let beyond : length part ≤ place - first = omega (arith, more, long) in
          let back : first + (count + (place - first - length part)) ≡ place = omega (arith, more, long) in
          get_or-append_right (take first before) (part ++ rest) first place no_columns front from
          ∙ get_or-append_right part rest (length part) (place - first) no_columns refl beyond
          ∙ get_or-drop count (drop first before) (place - first - length part) no_columns
          ∙ get_or-drop first before (count + (place - first - length part)) no_columns
          ∙ ap (λ (i : ℕ). row_of before i) back;
      copied = λ place low high.
          let inside : place - first < length part = omega (arith, low, high, long) in
          let back : first + (place - first) ≡ place = omega (arith, low) in
          get_or-append_right (take first before) (part ++ rest) first place no_columns front low
          ∙ get_or_append_left part rest no_columns (place - first) inside
          ∙ same (place - first) (omega (arith, low, high)) ∙ ap (row_of source) back;
    }

-- whole planes that are copied
pub planes_copied : (height first end : ℕ) (source before after : List (List Bool)) →
    AreCopied (first * height) (end * height) source before after → ArePlanesOf height first end source before after
planes_copied height first end source before after copied =
    record {
      below = λ plane row under less.
          copied.below (plane * height + row) (before_plane height plane first row under less);
      behind = λ plane row under more.
          let past : end * height ≤ plane * height = behind_plane height end plane more in
          copied.behind (plane * height + row) (omega (arith, past));
      copied = λ plane row under from less.
          let low : first * height ≤ plane * height = behind_plane height first plane from in
          copied.copied (plane * height + row) (omega (arith, low)) (before_plane height plane end row under less);
    }

-- some planes, and then those behind them
pub planes_then : (height first end : ℕ) (source before between after : List (List Bool)) → first ≤ end →
    ArePlanesOf height 0 first source before between → ArePlanesOf height first end source between after →
    ArePlanesOf height 0 end source before after
planes_then height first end source before between after order was more =
    record {
      below = λ plane row under less. absurd (omega (arith, less));
      behind = λ plane row under past.
          more.behind plane row under past ∙ was.behind plane row under (omega (arith, past, order));
      copied = λ plane row under from less. elim (cases_lt plane first) [
        | inl early ↦ more.below plane row under early ∙ was.copied plane row under from early
        | inr late ↦ more.copied plane row under late less
      ];
    }

-- and then others that were the same before
pub planes_and_rest : (height marked count : ℕ) (source before after : List (List Bool)) → marked ≤ count →
    ((plane : ℕ) → marked ≤ plane → plane < count → DifferOnlyOnRows height plane source before no_columns) →
    ArePlanesOf height 0 marked source before after → ArePlanesOf height 0 count source before after
planes_and_rest height marked count source before after order same was =
    record {
      below = λ plane row under less. absurd (omega (arith, less));
      behind = λ plane row under past. was.behind plane row under (omega (arith, past, order));
      copied = λ plane row under from less. elim (cases_lt plane marked) [
        | inl early ↦ was.copied plane row under from early
        | inr late ↦ was.behind plane row under late ∙ sym (same plane late less row under (none_at row))
      ];
    }

-- no more planes than there are rows for
pub planes_within : (height planes count : ℕ) → 0 < height → planes * height ≤ count * height → planes ≤ count
planes_within height planes count some rows = elim (cases_lt count planes) [
  | inl more ↦
      let past : (count + 1) * height ≤ planes * height =
      behind_plane height (count + 1) planes (let next : count + 1 ≤ planes = omega (arith, more) in next) in
      absurd (omega (arith, past, rows, some))
  | inr less ↦ less
]

-- a plane of rows that are the same
pub same_from : (height first : ℕ) (source others : List (List Bool)) →
    AreSameFrom (first * height) source others → (plane : ℕ) → first ≤ plane →
    DifferOnlyOnRows height plane source others no_columns
same_from height first source others same plane from row under off =
    let past : first * height ≤ plane * height = behind_plane height first plane from in
    same (plane * height + row) (omega (arith, past))

-- rows without columns are the same
pub both_empty : (start : ℕ) (first second : List (List Bool)) → AreEmptyFrom start first → AreEmptyFrom start second →
    AreSameFrom start first second
both_empty start first second none nor place from = none place from ∙ sym (nor place from)

-- and then one that was the same before
pub planes_and_same : (height first plane : ℕ) (source before between after : List (List Bool)) → first ≤ plane →
    DifferOnlyOnRows height plane source between no_columns → ArePlanesOf height 0 first source before between →
    ArePlanesOf height first plane source between after → ArePlanesOf height 0 (plane + 1) source before after
planes_and_same height first plane source before between after order same was more =
    let all : ArePlanesOf height 0 plane source before after =
    planes_then height first plane source before between after order was more in
    record {
      below = λ o row under less. absurd (omega (arith, less));
      behind = λ o row under past. all.behind o row under (omega (arith, past));
      copied = λ o row under from less. elim (cases_eq o plane) [
        | inl e ↦ rw e (more.behind plane row under (omega arith) ∙ sym (same row under (none_at row)))
        | inr apart ↦ all.copied o row under from (omega (arith, less, apart))
      ];
    }

-- the index behind a change of several planes, of which it is copied too
pub marked_planes : (count count' height first end : ℕ) (source before after own index mine : List (List Bool)) →
    end ≤ count → ArePlanesOf height first end source before after → AreCopied first end own index mine →
    AreRowsMarked count height source own → AreRowsMarked count' height before index →
    AreRowsMarked count' height after mine
marked_planes count count' height first end source before after own index mine enough changed copied sources befores =
    λ plane row below under clear.
    elim (cases_lt plane first) [
      | inl early ↦
          changed.below plane row under early
          ∙ befores plane row below under (ap (λ (w : List Bool). column_at w row) (sym (copied.below plane early))
          ∙ clear)
      | inr from ↦ elim (cases_lt plane end) [
        | inl less ↦
            changed.copied plane row under from less
            ∙ sources plane row (omega (arith, less, enough)) under
            (ap (λ (w : List Bool). column_at w row) (sym (copied.copied plane from less)) ∙ clear)
        | inr past ↦
            changed.behind plane row under past
            ∙ befores plane row below under (ap (λ (w : List Bool). column_at w row) (sym (copied.behind plane past))
            ∙ clear)
      ]
    ]

-- a plane that has no columns, before and afterwards
pub plane_blank : (height plane : ℕ) (source before : List (List Bool)) →
    ((row : ℕ) → row < height → row_of before (plane * height + row) ≡ no_columns) →
    ((row : ℕ) → row < height → row_of source (plane * height + row) ≡ no_columns) →
    ArePlanesOf height plane (plane + 1) source before before
plane_blank height plane source before here there = record {
  below = λ o row under less. refl;
  behind = λ o row under more. refl;
  copied = λ o row under low high. let e : o ≡ plane = omega arith in rw e (here row under ∙ sym (there row under));
}

-- a plane without marks
pub unmarked_plane : (count height plane : ℕ) (words index : List (List Bool)) → height ≤ SIDE_LIMIT → plane < count →
    AreRowsMarked count height words index → set_columns (row_of index plane) ≡ [] →
    (row : ℕ) → row < height → row_of words (plane * height + row) ≡ no_columns
unmarked_plane count height plane words index short below marked none row under =
    marked plane row below under (none_in (row_of index plane) row none (omega (arith, under, short)))

-- planes from one on, none of which has a mark
pub unmarked_rest : (count height first : ℕ) (words index : List (List Bool)) → height ≤ SIDE_LIMIT →
    AreRowsMarked count height words index →
    ((plane row : ℕ) → first ≤ plane → plane < count → row < SIDE_LIMIT → column_at (row_of index plane) row ≡ false) →
    ArePlanesOf height first count [] words words
unmarked_rest count height first words index short marked none =
    record {
      below = λ plane row under less. refl;
      behind = λ plane row under more. refl;
      copied = λ plane row under from less. marked plane row less under (none plane row from less (omega (
        arith,
        under,
        short,
      )));
    }

-- the index behind a change of one plane
pub marked_plane : (count height plane : ℕ) (mark : List Bool) (source before after index : List (List Bool)) →
    plane < length index → ArePlanesOf height plane (plane + 1) source before after →
    AreRowsMarked count height before index → ((row : ℕ) → row < height → column_at mark row ≡ false →
    row_of source (plane * height + row) ≡ no_columns) →
    AreRowsMarked count height after (slice_set index plane mark)
marked_plane count height plane mark source before after index own changed marked blank = λ o row below under clear.
    elim (cases_eq o plane) [
      | inl e ↦
          let there : column_at mark row ≡ false =
          ap (λ (w : List Bool). column_at w row)
          (sym (ap (λ (p : ℕ). row_of (slice_set index plane mark) p) e
          ∙ get_or-set_same index plane mark no_columns own)) ∙ clear in
          rw e (changed.copied plane row under (omega arith) (omega arith) ∙ blank row under there)
      | inr n ↦
          let there : column_at (row_of index o) row ≡ false =
          ap (λ (w : List Bool). column_at w row) (sym (get_or-set_other index plane o mark no_columns n))
          ∙ clear in
          elim (cases_lt o plane) [
            | inl less ↦ changed.below o row under less ∙ marked o row below under there
            | inr more ↦ changed.behind o row under (omega arith) ∙ marked o row below under there
          ]
    ]

-- a row of planes, by its plane and its number there
pub at_place : (height i : ℕ) (words : List (List Bool)) → row_of words i ≡ row_of words (i / height * height + i % height)
at_place height i words = ap (λ (k : ℕ). row_of words k) (sym (div-add-mod' i height))

-- each row is a set
pub sets_planes : (height first end : ℕ) (source before after : List (List Bool)) → 0 < height →
    ArePlanesOf height first end source before after → AreSets source → AreSets before → AreSets after
sets_planes height first end source before after some changed sources befores = λ i.
    let P : List Bool → Type 0 = λ set. IsSet set in
    let plane : ℕ = i / height in
    let row : ℕ = i % height in
    let low : row < height = mod_below i height some in
    subst P (sym (at_place height i after)) (elim (cases_lt plane first) [
      | inl less ↦ subst P (sym (changed.below plane row low less)) (befores (plane * height + row))
      | inr from ↦ elim (cases_lt plane end) [
        | inl under ↦ subst P (sym (changed.copied plane row low from under)) (sources (plane * height + row))
        | inr past ↦ subst P (sym (changed.behind plane row low past)) (befores (plane * height + row))
      ]
    ])

-- all planes from one on
pub all_cleared : (height first count : ℕ) (before after : List (List Bool)) → 0 < height →
    first * height ≤ length before → length before ≤ count * height → length after ≡ length before →
    ArePlanesOf height first count [] before after → after ≡ cleared_from (first * height) before
all_cleared height first count before after some within whole long changed =
    let start : ℕ = first * height in
    let zeros : List (List Bool) = replicate (length before - start) no_columns in
    let front : length (take start before) ≡ start = length-take-le start before within in
    let total : length (cleared_from start before) ≡ length before =
    length-append (take start before) zeros ∙ (let back : start + (length before - start) ≡ length before =
    omega arith in rw (front, length-replicate) back) in
    same_lists after (cleared_from start before) (long ∙ sym total)
    (λ i d inside.
    let low : i % height < height = mod_below i height some in
    let here : i < length (cleared_from start before) = omega (arith, inside, long, total) in
    let place : i / height * height + i % height ≡ i = div-add-mod' i height in
    let plane : i / height < count = div_below i height count some (omega (arith, inside, long, whole)) in
    get_or_default after i d no_columns inside ∙ at_place height i after
    ∙ elim (cases_lt i start) [
      | inl early ↦
          let under : i < length (take start before) = rw front early in
          changed.below (i / height) (i % height) low (div_below i height first some early)
          ∙ sym (at_place height i before)
          ∙ sym (get_or_append_left (take start before) zeros no_columns i under
          ∙ get_or-take start before i no_columns early)
      | inr late ↦
          let from : first ≤ i / height = elim (cases_lt (i / height) first) [
            | inl less ↦ let early = before_plane height (i / height) first (i % height) low less in
                absurd (omega (arith, early, place, late))
            | inr more ↦ more
          ] in
          changed.copied (i / height) (i % height) low from plane
          ∙ sym (get_or-append_right (take start before) zeros start i no_columns front late
          ∙ blank_word (length before - start) (i - start))
    ]
    ∙ sym (get_or_default (cleared_from start before) i d no_columns here))

pub all_copied : (height count : ℕ) (source before after : List (List Bool)) → 0 < height →
    length source ≤ count * height → length after ≡ length source →
    ArePlanesOf height 0 count source before after → after ≡ source
all_copied height count source before after some whole long changed =
    same_lists after source long
    (λ i d inside.
    let low : i % height < height = mod_below i height some in
    let here : i < length source = omega (arith, inside, long) in
    let plane : i / height < count = div_below i height count some (omega (arith, inside, long, whole)) in
    get_or_default after i d no_columns inside ∙ at_place height i after
    ∙ changed.copied (i / height) (i % height) low (omega arith) plane ∙ sym (at_place height i source)
    ∙ sym (get_or_default source i d no_columns here))

-- rows without columns, cleared
pub empty_cleared : (start : ℕ) (words : List (List Bool)) → start ≤ length words → AreEmptyFrom start words →
    words ≡ cleared_from start words
empty_cleared start words within none =
    let zeros : List (List Bool) = replicate (length words - start) no_columns in
    let front : length (take start words) ≡ start = length-take-le start words within in
    let total : length (cleared_from start words) ≡ length words =
    length-append (take start words) zeros ∙ (let back : start + (length words - start) ≡ length words =
    omega (arith, within) in rw (front, length-replicate) back) in
    same_lists words (cleared_from start words) (sym total)
    (λ i d inside.
    let here : i < length (cleared_from start words) = omega (arith, inside, total) in
    get_or_default words i d no_columns inside
    ∙ elim (cases_lt i start) [
      | inl early ↦
          let under : i < length (take start words) = rw front early in
          sym (get_or_append_left (take start words) zeros no_columns i under
          ∙ get_or-take start words i no_columns early)
      | inr late ↦
          none i late
          ∙ sym (get_or-append_right (take start words) zeros start i no_columns front late
          ∙ blank_word (length words - start) (i - start))
    ]
    ∙ sym (get_or_default (cleared_from start words) i d no_columns here))

-- and cleared rows have no columns
pub cleared_empty : (start : ℕ) (words : List (List Bool)) → start ≤ length words →
    AreEmptyFrom start (cleared_from start words)
cleared_empty start words within place from =
    let zeros : List (List Bool) = replicate (length words - start) no_columns in
    let front : length (take start words) ≡ start = length-take-le start words within in
    get_or-append_right (take start words) zeros start place no_columns front from
    ∙ blank_word (length words - start) (place - start)

-- planes without marked rows have no columns
pub unmarked_empty : (height first count : ℕ) (words : List (List Bool)) → 0 < height →
    length words ≤ count * height → ArePlanesOf height first count [] words words → AreEmptyFrom (first * height) words
unmarked_empty height first count words some whole none place from =
    let low : place % height < height = mod_below place height some in
    let e : place / height * height + place % height ≡ place = div-add-mod' place height in
    let high : first ≤ place / height = elim (cases_lt (place / height) first) [
      | inl less ↦ let early = before_plane height (place / height) first (place % height) low less in
          absurd (omega (arith, early, e, from))
      | inr more ↦ more
    ] in
    elim (cases_lt (place / height) count) [
      | inl own ↦ at_place height place words ∙ none.copied (place / height) (place % height) low high own
      | inr beyond ↦
          let past : count * height ≤ place / height * height = behind_plane height count (place / height) beyond in
          get_or_past words place no_columns (omega (arith, past, e, whole))
    ]

-- rows without columns behind the planes of which rows were copied
pub rest_left : (height first : ℕ) (rows : List Bool) (source before after : List (List Bool)) → 0 < height →
    AreRowsOf height 0 first rows source before after → AreEmptyFrom (first * height) before →
    AreEmptyFrom (first * height) after
rest_left height first rows source before after some are none place from =
    let low : place % height < height = mod_below place height some in
    let e : place / height * height + place % height ≡ place = div-add-mod' place height in
    let high : first ≤ place / height = elim (cases_lt (place / height) first) [
      | inl less ↦ let early = before_plane height (place / height) first (place % height) low less in
          absurd (omega (arith, early, e, from))
      | inr more ↦ more
    ] in
    at_place height place after ∙ are.behind (place / height) (place % height) low high
    ∙ sym (at_place height place before) ∙ none place from
