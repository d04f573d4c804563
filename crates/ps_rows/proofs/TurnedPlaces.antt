-- Which places are turned round: row by row, plane by plane, column by column; and bit by bit.
use Rattle.std.proofs.Common.{◌≡◌, ◌≢◌, ◌∙◌, ℕ, ◌+◌, ◌*◌, ◌/◌, ◌%◌, ◌<◌, ◌≤◌, ◌&&◌, ◌||◌, inl, inr, Bool, true, false}
use Rattle.std.proofs.Common.{not, List, [], ◌∷◌, length, refl, sym, ap, ap₂, arith}
use Rattle.std.specs.Prelude.{if◌then◌else◌, nat_eq, nat_le, nat_lt, slice_index_or}
use Rattle.std.proofs.Math.Bool.{and-false, and-true}
use Rattle.std.proofs.Math.Nat.{mul-le-mul_left}
use Rattle.std.proofs.lemmas.Bool.Decides.{nat_tests}
use Rattle.std.proofs.lemmas.Bool.{and_parts, cases_eq, cases_lt, eq-eqb, ne_eqb, lt-ltb, le-ltb, false≢true}
use Rattle.std.proofs.lemmas.List.{get_or_past}
use Rattle.std.proofs.lemmas.Nat.Bits.{bit_at-zero}
use Rattle.std.proofs.lemmas.Nat.{div-add-mod', div-mul-add, div_below, mod-mul-add, mod_below}
use Rattle.ps_model.specs.declared.limits.TheConstants.{SIDE_LIMIT}
use Rattle.ps_board.specs.ColumnSets.{bit_is_set, both_columns, column_at, columns_below, set_columns}
use Rattle.ps_board.specs.ColumnSets.{unlike_columns}
use Rattle.ps_board.proofs.ColumnLaws.{below_at, column_at-where, first_in, none_in}
use Rattle.ps_board.proofs.Taken.{taken_gone, taken_out}
use Rattle.ps_rows.specs.PackedKeys.{AreNoted, IsWithin, differs, flipped, key_bit, number_at}
use Rattle.ps_rows.specs.Planes.{has_cell, row_of}
use Rattle.ps_rows.specs.TurnedPlaces.{column_of, differ_at, has_place, in_row, in_word, is_turned, keys_differ, row_at}
use Rattle.ps_rows.specs.TurnedPlaces.{has_layer, row_differs, rows_differ}
use Rattle.ps_rows.proofs.KeyBits.{if_flipped}
use Rattle.ps_rows.proofs.TurnedKeys.{flipped_own}

nothing : (a b c d : Bool) → (b && (d && false)) ≡ flipped (a && false) (c && (d && false))
nothing a b c d = rw (and-false d, and-false a, and-false b, and-false c) refl

-- a number that isn't taken out of a set
left_other : (set left : List Bool) (k x : ℕ) → set_columns set ≡ k ∷ set_columns left → x < SIDE_LIMIT → x ≢ k →
    column_at left x ≡ column_at set x
left_other set left k x is low other =
    ap (λ (b : Bool). b || column_at left x) (sym (ne_eqb x k other)) ∙ sym (taken_out set left k x is low)

-- the places of a row in which two boards differ, from a plane on
abbrev pub row_differs_from : ℕ → ℕ → ℕ → List (List Bool) → List (List Bool) → ℕ → ℕ → ℕ → Bool
row_differs_from width height objects first second row plane place =
    nat_le plane (place / (width * height)) && row_differs width height objects first second row place

-- the places of which two keys say different things, from a word on
abbrev pub keys_differ_from : List ℕ → List ℕ → List ℕ → ℕ → ℕ → Bool
keys_differ_from numbers words others index place =
    nat_le index (number_at numbers place / 64) && keys_differ numbers words others place

-- a board has a cell
pub some_cell : (width height : ℕ) → 0 < width → 0 < height → 0 < width * height
some_cell width height across down =
    let more : height * 1 ≤ height * width = mul-le-mul_left height (let one : 1 ≤ width = omega (arith, across) in one)
    in omega (arith, more, down)

-- the columns of a board in which two rows differ
pub within_all : (unlike all : List Bool) (width x : ℕ) → all ≡ columns_below width → x < SIDE_LIMIT →
    column_at (both_columns unlike all) x ≡ true → x < width
within_all unlike all width x is low on =
    let parts = and_parts (column_at unlike x) (column_at all x)
    (sym (column_at-where (λ y. column_at unlike y && column_at all y) x low) ∙ on) in
    let under : nat_lt x width ≡ true =
    sym (ap (λ (set : List Bool). column_at set x) is ∙ below_at width x low) ∙ parts.1 in
    grind (arith, nat_tests, under)

pub differing_at : (one two all : List Bool) (width x : ℕ) → all ≡ columns_below width → x < width →
    width ≤ SIDE_LIMIT → column_at (both_columns (unlike_columns one two) all) x ≡ flipped (column_at one x)
    (column_at two x)
differing_at one two all width x is across narrow =
    let low : x < SIDE_LIMIT = omega (arith, across, narrow) in
    column_at-where (λ y. column_at (unlike_columns one two) y && column_at all y) x low
    ∙ ap (λ (b : Bool). column_at (unlike_columns one two) x && b)
    (ap (λ (set : List Bool). column_at set x) is ∙ below_at width x low ∙ lt-ltb x width across)
    ∙ and-true (column_at (unlike_columns one two) x)
    ∙ column_at-where (λ y. if column_at one y then not (column_at two y) else column_at two y) x low
    ∙ if_flipped (column_at one x) (column_at two x)

-- the places of a row stand in its plane
pub place_low : (width height plane row x long : ℕ) → row < height → x < width →
    (plane + 1) * (width * height) ≤ long → plane * (width * height) + (x * height + row) < long
place_low width height plane row x long inside low enough =
    let next : x + 1 ≤ width = omega (arith, low) in
    let more : height * (x + 1) ≤ height * width = mul-le-mul_left height next in
    let whole : (plane + 1) * (width * height) ≡ plane * (width * height) + width * height = omega arith in
    omega (arith, more, whole, enough, inside)

-- planes of objects before the last one
pub plane_enough : (objects plane cells long : ℕ) → plane < objects → objects * cells ≤ long →
    (plane + 1) * cells ≤ long
plane_enough objects plane cells long low is =
    let next : plane + 1 ≤ objects = omega (arith, low) in
    let more : cells * (plane + 1) ≤ cells * objects = mul-le-mul_left cells next in
    omega (arith, more, is)

module _ (width height : ℕ) (some : 0 < width * height) (down : 0 < height) (narrow : width ≤ SIDE_LIMIT)
    (short : height ≤ SIDE_LIMIT) where
  abbrev cells : ℕ
  cells = width * height

  cell_in : (place : ℕ) → place % cells < cells
  cell_in place = mod_below place cells some

  across : (place : ℕ) → column_of width height place < width
  across place = div_below (place % cells) height width down (cell_in place)

  under : (place : ℕ) → row_at width height place < height
  under place = mod_below (place % cells) height down

  -- columns ------------------------------------------------------------------------------------------------------------

  module _ (plane row : ℕ) (inside : row < height) where
    abbrev place_at : ℕ → ℕ
    place_at x = plane * cells + (x * height + row)

    within : (x : ℕ) → x < width → x * height + row < cells
    within x low =
        let next : x + 1 ≤ width = omega arith in
        let more : height * (x + 1) ≤ height * width = mul-le-mul_left height next in
        omega (arith, more, inside)

    plane_of : (x : ℕ) → x < width → place_at x / cells ≡ plane
    plane_of x low = div-mul-add plane cells (x * height + row) (within x low)

    row_of_place : (x : ℕ) → x < width → row_at width height (place_at x) ≡ row
    row_of_place x low =
        ap (λ (c : ℕ). c % height) (mod-mul-add plane cells (x * height + row) (within x low))
        ∙ mod-mul-add x height row inside

    column_of_place : (x : ℕ) → x < width → column_of width height (place_at x) ≡ x
    column_of_place x low =
        ap (λ (c : ℕ). c / height) (mod-mul-add plane cells (x * height + row) (within x low))
        ∙ div-mul-add x height row inside

    own_place : (x place : ℕ) → place / cells ≡ plane → row_at width height place ≡ row →
        column_of width height place ≡ x → place ≡ place_at x
    own_place x place same level here =
        sym (div-add-mod' place cells)
        ∙ ap₂ (λ (p c : ℕ). p * cells + c) same
        (sym (div-add-mod' (place % cells) height) ∙ ap₂ (λ (y r : ℕ). y * height + r) here level)

    row_here : (set : List Bool) (x : ℕ) → x < width →
        in_row width height plane row set (place_at x) ≡ column_at set x
    unfolding in_row
    row_here set x low =
        ap₂ (λ (a b : Bool). a && (b && column_at set (column_of width height (place_at x))))
        (eq-eqb (place_at x / cells) plane (plane_of x low)) (eq-eqb (row_at width height (place_at x)) row
        (row_of_place x low))
        ∙ ap (column_at set) (column_of_place x low)

    other_place : (set left : List Bool) (x : ℕ) → set_columns set ≡ x ∷ set_columns left → (place : ℕ) →
        place ≢ place_at x → in_row width height plane row left place ≡ in_row width height plane row set place
    unfolding in_row
    other_place set left x is place n = elim (cases_eq (place / cells) plane) [
      | inl same ↦ elim (cases_eq (row_at width height place) row) [
        | inl level ↦
            let other : column_of width height place ≢ x = λ here. n (own_place x place same level here) in
            let low : column_of width height place < width = across place in
            let far : column_of width height place < SIDE_LIMIT = omega (arith, low, narrow) in
            ap (λ (b : Bool). nat_eq (place / cells) plane && (nat_eq (row_at width height place) row && b))
            (left_other set left x (column_of width height place) is far other)
        | inr apart ↦ rw (ne_eqb (row_at width height place) row apart) refl
      ]
      | inr apart ↦ rw (ne_eqb (place / cells) plane apart) refl
    ]

    pub row_more : (set left : List Bool) (x : ℕ) → set_columns set ≡ x ∷ set_columns left → x < width →
        (place : ℕ) → in_row width height plane row left place
        ≡ flipped (nat_eq place (place_at x)) (in_row width height plane row set place)
    unfolding in_row
    row_more set left x is low place = elim (cases_eq place (place_at x)) [
      | inl e ↦
          ap (in_row width height plane row left) e ∙ row_here left x low ∙ taken_gone set left x is
          ∙ sym (ap₂ flipped (eq-eqb place (place_at x) e)
          (ap (in_row width height plane row set) e ∙ row_here set x low
          ∙ (first_in set x (set_columns left) is).0))
      | inr n ↦
          let same_row : in_row width height plane row left place ≡ in_row width height plane row set place =
          other_place set left x is place n in
          same_row ∙ ap (λ (b : Bool). flipped b (in_row width height plane row set place))
          (sym (ne_eqb place (place_at x) n))
    ]

    pub row_none : (left : List Bool) → set_columns left ≡ [] → (place : ℕ) →
        in_row width height plane row left place ≡ false
    unfolding in_row
    row_none left none place =
        let low : column_of width height place < width = across place in
        let far : column_of width height place < SIDE_LIMIT = omega (arith, low, narrow) in
        ap (λ (b : Bool). nat_eq (place / cells) plane && (nat_eq (row_at width height place) row && b))
        (none_in left (column_of width height place) none far)
        ∙ ap (λ (b : Bool). nat_eq (place / cells) plane && b) (and-false (nat_eq (row_at width height place) row))
        ∙ and-false (nat_eq (place / cells) plane)

  -- planes -------------------------------------------------------------------------------------------------------------

  module _ (objects row : ℕ) (first second : List (List Bool)) where
    pub planes_first : (place : ℕ) → row_differs_from width height objects first second row 0 place ≡ row_differs width height objects first second row place
    planes_first place =
        let first_one : nat_le 0 (place / (width * height)) ≡ true = grind (arith, nat_tests) in
        ap (λ (b : Bool). b && row_differs width height objects first second row place) first_one

    pub planes_more : (plane : ℕ) (columns : List Bool) → plane < objects →
        ((x : ℕ) → x < width → column_at columns x ≡ flipped (column_at (row_of first (plane * height + row)) x)
        (column_at (row_of second (plane * height + row)) x)) →
        (place : ℕ) → row_differs_from width height objects first second row (plane + 1) place
        ≡ flipped (in_row width height plane row columns place) (row_differs_from width height objects first second row plane place)
    unfolding in_row row_differs differ_at has_place has_cell
    planes_more plane columns low tells place = elim (cases_eq (place / cells) plane) [
      | inl same ↦ elim (cases_eq (row_at width height place) row) [
        | inl level ↦
            let gone : nat_le (plane + 1) (place / cells) ≡ false = grind (arith, nat_tests, same) in
            let here : nat_le plane (place / cells) ≡ true = grind (arith, nat_tests, same) in
            let among : nat_lt (place / cells) objects ≡ true = grind (arith, nat_tests, same, low) in
            let x : ℕ = column_of width height place in
            let told : column_at columns x ≡ flipped (column_at (row_of first (place / cells * height + row_at width
            height place)) x) (column_at (row_of second (place / cells * height + row_at width height place)) x) =
            tells x (across place)
            ∙ ap₂ (λ (p r : ℕ). flipped (column_at (row_of first (p * height + r)) x)
            (column_at (row_of second (p * height + r)) x)) (sym same) (sym level) in
            rw (
              gone,
              here,
              among,
              eq-eqb (place / cells) plane same,
              eq-eqb (row_at width height place) row level,
              told,
            ) (sym (flipped_own (flipped (column_at (row_of first (place / cells * height + row_at width height place))
            x) (column_at (row_of second (place / cells * height + row_at width height place)) x))))
        | inr apart ↦
            rw (ne_eqb (row_at width height place) row apart) (nothing (nat_eq (place / cells) plane)
            (nat_le (plane + 1) (place / cells)) (nat_le plane (place / cells)) (nat_lt (place / cells) objects))
      ]
      | inr apart ↦
          let next : nat_le (plane + 1) (place / cells) ≡ nat_le plane (place / cells) = grind (arith, nat_tests, apart) in
          rw (next, ne_eqb (place / cells) plane apart) refl
    ]

    pub planes_none : (plane : ℕ) → objects ≤ plane → (place : ℕ) → row_differs_from width height objects first second row plane place ≡ false
    unfolding row_differs
    planes_none plane high place = elim (cases_lt (place / cells) objects) [
      | inl low ↦
          let gone : nat_le plane (place / cells) ≡ false = grind (arith, nat_tests, low, high) in
          rw gone refl
      | inr far ↦ rw (le-ltb (place / cells) objects far) (and-false (nat_le plane (place / cells)))
    ]

  -- rows ---------------------------------------------------------------------------------------------------------------

  module _ (objects : ℕ) (first second : List (List Bool)) where
    pub rows_more : (set left : List Bool) (row : ℕ) → set_columns set ≡ row ∷ set_columns left → (place : ℕ) →
        rows_differ width height objects first second left place
        ≡ flipped (row_differs width height objects first second row place)
        (rows_differ width height objects first second set place)
    unfolding rows_differ row_differs
    rows_more set left row is place =
        let r : ℕ = row_at width height place in
        let low : r < height = under place in
        let far : r < SIDE_LIMIT = omega (arith, low, short) in
        let off : (nat_lt (place / cells) objects && false) ≡ false = and-false (nat_lt (place / cells) objects) in
        elim (cases_eq r row) [
          | inl e ↦
              let gone : column_at left r ≡ false = ap (column_at left) e ∙ taken_gone set left row is in
              let here : column_at set r ≡ true = ap (column_at set) e ∙ (first_in set row (set_columns left) is).0 in
              rw (gone, here, eq-eqb r row e, off) (sym (flipped_own
              (nat_lt (place / cells) objects && differ_at width height first second place)))
          | inr n ↦ rw (ne_eqb r row n, left_other set left row r is far n, off) refl
        ]

    pub rows_none : (left : List Bool) → set_columns left ≡ [] → (place : ℕ) →
        rows_differ width height objects first second left place ≡ false
    unfolding rows_differ
    rows_none left none place =
        let low : row_at width height place < height = under place in
        let far : row_at width height place < SIDE_LIMIT = omega (arith, low, short) in
        rw (none_in left (row_at width height place) none far) (and-false (nat_lt (place / cells) objects))

    -- rows that the boards don't have make no difference
    pub rows_within : (rows within : List Bool) →
        ((r : ℕ) → r < height → column_at within r ≡ column_at rows r) → (place : ℕ) →
        rows_differ width height objects first second within place
        ≡ rows_differ width height objects first second rows place
    unfolding rows_differ
    rows_within rows within same place =
        ap (λ (b : Bool). nat_lt (place / cells) objects && (b && differ_at width height first second place))
        (same (row_at width height place) (under place))

-- bits -----------------------------------------------------------------------------------------------------------------

and_flipped : (b s r : Bool) → (b && flipped s r) ≡ flipped (b && s) (b && r)
and_flipped true s r = refl
and_flipped false s r = refl

-- a word of keys has no bit beyond
bit_beyond : (words : List ℕ) (k : ℕ) → length words ≤ k / 64 → key_bit words k ≡ false
unfolding key_bit
bit_beyond words k far =
    ap (λ (w : ℕ). bit_is_set w (k % 64)) (get_or_past words (k / 64) 0 far)
    ∙ ap (λ (bit : ℕ). nat_eq bit 1) (bit_at-zero (k % 64))

module _ (table : List ℕ) (layers cells : ℕ) (numbers places : List ℕ) (noted : AreNoted numbers places) where
  module _ (set left : List Bool) (index bit : ℕ) (is : set_columns set ≡ bit ∷ set_columns left) (small : bit < 64)
      (known : index * 64 + bit < length places) where
    abbrev own : ℕ
    own = slice_index_or places (index * 64 + bit) 0

    number_of_own : number_at numbers own ≡ index * 64 + bit
    number_of_own = noted.numbered (index * 64 + bit) known

    own_by_number : (place : ℕ) → number_at numbers place ≡ index * 64 + bit → place ≡ own
    own_by_number place same =
        let low : number_at numbers place < length places = omega (arith, same, known) in
        sym (noted.placed place low) ∙ ap (λ (k : ℕ). slice_index_or places k 0) same

    bit_more : (place : ℕ) → in_word numbers index left place
        ≡ flipped (nat_eq place own) (in_word numbers index set place)
    unfolding in_word
    bit_more place =
        let n : ℕ = number_at numbers place in
        let rest : n % 64 < SIDE_LIMIT = omega arith in
        elim (cases_eq place own) [
          | inl e ↦
              let number : n ≡ index * 64 + bit = ap (number_at numbers) e ∙ number_of_own in
              let word : n / 64 ≡ index = omega (arith, number, small) in
              let place_of_bit : n % 64 ≡ bit = omega (arith, number, small) in
              let gone : column_at left (n % 64) ≡ false =
              ap (column_at left) place_of_bit ∙ taken_gone set left bit is in
              let here : column_at set (n % 64) ≡ true =
              ap (column_at set) place_of_bit ∙ (first_in set bit (set_columns left) is).0 in
              rw (gone, here, eq-eqb (n / 64) index word, eq-eqb place own e) refl
          | inr other ↦ elim (cases_eq (n / 64) index) [
            | inl word ↦
                let apart : n % 64 ≢ bit = λ same. other (own_by_number place (omega (arith, word, same))) in
                rw (ne_eqb place own other, left_other set left bit (n % 64) is rest apart) refl
            | inr away ↦ rw (ne_eqb place own other, ne_eqb (n / 64) index away) refl
          ]
        ]

    pub bits_more : (place : ℕ) → is_turned table layers cells (in_word numbers index left) place
        ≡ flipped (has_layer table layers (place / cells) && nat_eq place own)
        (is_turned table layers cells (in_word numbers index set) place)
    unfolding is_turned
    bits_more place =
        ap (λ (b : Bool). has_layer table layers (place / cells) && b) (bit_more place)
        ∙ and_flipped (has_layer table layers (place / cells)) (nat_eq place own) (in_word numbers index set place)

  pub bits_none : (left : List Bool) (index : ℕ) → set_columns left ≡ [] → (place : ℕ) →
      is_turned table layers cells (in_word numbers index left) place ≡ false
  unfolding is_turned in_word
  bits_none left index none place =
      let rest : number_at numbers place % 64 < SIDE_LIMIT = omega arith in
      rw (none_in left (number_at numbers place % 64) none rest, and-false (nat_eq (number_at numbers place / 64) index))
      (and-false (has_layer table layers (place / cells)))

  module _ (words others : List ℕ) where
    pub words_first : (place : ℕ) → is_turned table layers cells (keys_differ_from numbers words others 0) place
        ≡ is_turned table layers cells (keys_differ numbers words others) place
    unfolding is_turned
    words_first place =
        let first_one : nat_le 0 (number_at numbers place / 64) ≡ true = grind (arith, nat_tests) in
        ap (λ (b : Bool). has_layer table layers (place / cells) && (b && keys_differ numbers words others place))
        first_one

    word_more : (index : ℕ) (bits : List Bool) → ((x : ℕ) → x < 64 → column_at bits x
        ≡ flipped (key_bit words (index * 64 + x)) (key_bit others (index * 64 + x))) → (place : ℕ) →
        keys_differ_from numbers words others (index + 1) place ≡ flipped (in_word numbers index bits place) (keys_differ_from numbers words others index place)
    unfolding in_word keys_differ differs
    word_more index bits told place =
        let n : ℕ = number_at numbers place in
        elim (cases_eq (n / 64) index) [
          | inl word ↦
              let gone : nat_le (index + 1) (n / 64) ≡ false = grind (arith, nat_tests, word) in
              let here : nat_le index (n / 64) ≡ true = grind (arith, nat_tests, word) in
              let whole : index * 64 + n % 64 ≡ n = omega (arith, word) in
              let bit : column_at bits (n % 64) ≡ flipped (key_bit words n) (key_bit others n) =
              told (n % 64) (omega arith) ∙ ap (λ (k : ℕ). flipped (key_bit words k) (key_bit others k)) whole in
              rw (gone, here, eq-eqb (n / 64) index word, bit)
              (sym (flipped_own (flipped (key_bit words n) (key_bit others n))))
          | inr apart ↦
              let next : nat_le (index + 1) (n / 64) ≡ nat_le index (n / 64) = grind (arith, nat_tests, apart) in
              rw (next, ne_eqb (n / 64) index apart) refl
        ]

    pub words_more : (index : ℕ) (bits : List Bool) → ((x : ℕ) → x < 64 → column_at bits x
        ≡ flipped (key_bit words (index * 64 + x)) (key_bit others (index * 64 + x))) → (place : ℕ) →
        is_turned table layers cells (keys_differ_from numbers words others (index + 1)) place
        ≡ flipped (is_turned table layers cells (in_word numbers index bits) place)
        (is_turned table layers cells (keys_differ_from numbers words others index) place)
    unfolding is_turned
    words_more index bits told place =
        ap (λ (b : Bool). has_layer table layers (place / cells) && b) (word_more index bits told place)
        ∙ and_flipped (has_layer table layers (place / cells)) (in_word numbers index bits place)
        (keys_differ_from numbers words others index place)

    pub words_none : (index : ℕ) → length words ≤ index → length others ≤ index → (place : ℕ) →
        is_turned table layers cells (keys_differ_from numbers words others index) place ≡ false
    unfolding is_turned keys_differ differs
    words_none index long as_long place =
        let n : ℕ = number_at numbers place in
        elim (cases_lt (n / 64) index) [
          | inl low ↦
              let gone : nat_le index (n / 64) ≡ false = grind (arith, nat_tests, low) in
              rw gone (and-false (has_layer table layers (place / cells)))
          | inr far ↦
              rw (
                bit_beyond words n (omega (arith, long, far)),
                bit_beyond others n (omega (arith, as_long, far)),
                and-false (nat_le index (n / 64)),
              ) (and-false (has_layer table layers (place / cells)))
        ]

-- a bit in which two keys differ is one of a noted place
pub differing_known : (count : ℕ) (words others : List ℕ) (index x : ℕ) (bits : List Bool) → IsWithin count words →
    IsWithin count others → column_at bits x ≡ flipped (key_bit words (index * 64 + x)) (key_bit others (index * 64 + x))
    → column_at bits x ≡ true → index * 64 + x < count
differing_known count words others index x bits low lower told on = elim (cases_lt (index * 64 + x) count) [
  | inl known ↦ known
  | inr far ↦
      absurd (false≢true (sym (told ∙ ap₂ flipped (low (index * 64 + x) far) (lower (index * 64 + x) far)) ∙ on))
]
