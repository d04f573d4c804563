-- Positions of parts that go down, row by row of the board.
use Rattle.std.proofs.Common.{◌≡◌, ◌≢◌, ◌∙◌, ℕ, ◌+◌, ◌*◌, ◌<◌, ◌≤◌, ◌&&◌, ◌||◌, ◌⊎◌, inl, inr, Bool, true, false}
use Rattle.std.proofs.Common.{Option, List, [], ◌∷◌, length, refl, sym, ap, ap₂, arith}
use Rattle.std.specs.Prelude.{nat_eq, nat_le, nat_lt, if◌then◌else◌, slice_set}
use Rattle.std.proofs.Math.Bool.{and-false, and-true, or-false}
use Rattle.std.proofs.lemmas.Bool.{and_parts, cases_eq, cases_lt}
use Rattle.std.proofs.lemmas.Bool.Decides.{nat_tests}
use Rattle.std.proofs.lemmas.List.{get_or-set_same, get_or-set_other}
use Rattle.ps_model.specs.declared.limits.TheConstants.{SIDE_LIMIT}
use Rattle.ps_model.specs.board.Grid.{Grid, IsGrid}
use Rattle.ps_program.specs.declared.cells.CompiledCell.{CompiledCell}
use Rattle.ps_program.specs.declared.rows.Axis.TheVariants.{Down}
use Rattle.ps_board.specs.ColumnSets.{both_columns, column_at, columns_below, either_columns, no_columns, set_columns}
use Rattle.ps_board.specs.ColumnSets.{with_column}
use Rattle.ps_board.proofs.ColumnLaws.{column_at-beyond, column_at-where, first_in, none_in}
use Rattle.ps_board.proofs.ColumnLaws.{with_here, with_other}
use Rattle.ps_board.proofs.EmptySets.{at_both}
use Rattle.ps_board.proofs.Taken.{passed-init, taken_gone, taken_out}
use Rattle.ps_places.specs.Candidates.{BeginsOnlyOn}
use Rattle.ps_places.specs.FoundStarts.{IsPartFound, IsRowAdded, begins_on, set_of, with_row}
use Rattle.ps_places.specs.PartStarts.{AreStarts, columns_on}
use Rattle.ps_places.specs.Lines.{part_fits}
use Rattle.ps_places.specs.Starts.{AreWhere, begins_down}
use Rattle.ps_places.proofs.LineSets.{none_has, other_place}

-- a row added to the sets of some columns -----------------------------------------------------------------------------

-- the columns that are left are some of them and have what they had; the others have got the row
pub record IsAdding (old : List (List Bool)) (count number : ℕ) (columns found : List Bool) (row : ℕ)
    (now : List (List Bool)) (left : List Bool) : Type 0 where
  pub done : (x : ℕ) → x < SIDE_LIMIT → column_at left x ≡ false →
      set_of now count x number ≡ with_row columns found row (set_of old count x number) x
  pub to_do : (x : ℕ) → x < SIDE_LIMIT → column_at left x ≡ true → set_of now count x number ≡ set_of old count x number
  pub some : (x : ℕ) → x < SIDE_LIMIT → column_at left x ≡ true → column_at columns x ≡ true
  pub others : (x other : ℕ) → other < count → other ≢ number → set_of now count x other ≡ set_of old count x other

pub adding-init : (old : List (List Bool)) (count number : ℕ) (columns found : List Bool) (row : ℕ) →
    IsAdding old count number columns found row old columns
adding-init old count number columns found row =
    record {
      done = λ x low out.
          sym (ap (λ (b : Bool). if b then with_column
          (if column_at found x then set_of old count x number else no_columns) row true else set_of old count x number)
          out);
      to_do = λ x low is. refl;
      some = λ x low is. is;
      others = λ x other low n. refl;
    }

not_left : (set left : List Bool) (k x : ℕ) → set_columns set ≡ k ∷ set_columns left → x < SIDE_LIMIT → x ≢ k →
    column_at set x ≡ column_at left x
not_left set left k x is low other =
    let no : nat_eq x k ≡ false = grind (arith, nat_tests, other) in
    taken_out set left k x is low ∙ ap (λ (b : Bool). b || column_at left x) no

done_by : (old now : List (List Bool)) (count number : ℕ) (columns found left rest set : List Bool) (row k x : ℕ) →
    k * count + number < length now → number < count → x < SIDE_LIMIT →
    set_columns left ≡ k ∷ set_columns rest → set ≡ with_column
    (if column_at found k then set_of now count k number else no_columns) row true →
    IsAdding old count number columns found row now left →
    column_at rest x ≡ false → (x ≡ k) ⊎ (x ≢ k) →
    set_of (slice_set now (k * count + number) set) count x number
    ≡ with_row columns found row (set_of old count x number) x
done_by old now count number columns found left rest set row k x room within low taken is adding out (inl same) =
    let first = first_in left k (set_columns rest) taken in
    let in_columns : column_at columns k ≡ true = adding.some k first.1 first.0 in
    let before : set_of now count k number ≡ set_of old count k number = adding.to_do k first.1 first.0 in
    rw same
    (get_or-set_same now (k * count + number) set [] room
    ∙ is
    ∙ ap (λ (s : List Bool). with_column (if column_at found k then s else no_columns) row true) before
    ∙ sym (ap (λ (b : Bool). if b then with_column
    (if column_at found k then set_of old count k number else no_columns) row true else set_of old count k number)
    in_columns))
done_by old now count number columns found left rest set row k x room within low taken is adding out (inr other) =
    get_or-set_other now (k * count + number) (x * count + number) set []
    (other_place count x k number number within within (inl other))
    ∙ adding.done x low (not_left left rest k x taken low other ∙ out)

rest_apart : (left rest : List Bool) (k x : ℕ) → set_columns left ≡ k ∷ set_columns rest → column_at rest x ≡ true →
    x ≢ k
rest_apart left rest k x taken is same =
    let gone : column_at rest k ≡ false = taken_gone left rest k taken in
    let clash : false ≡ true = sym gone ∙ ap (column_at rest) (sym same) ∙ is in cc

pub adding-more : (old now : List (List Bool)) (count number : ℕ) (columns found left rest set : List Bool)
    (row k : ℕ) → k * count + number < length now → number < count →
    set_columns left ≡ k ∷ set_columns rest → set ≡ with_column
    (if column_at found k then set_of now count k number else no_columns) row true →
    IsAdding old count number columns found row now left →
    IsAdding old count number columns found row (slice_set now (k * count + number) set) rest
adding-more old now count number columns found left rest set row k room within taken is adding =
    record {
      done = λ x low out. done_by old now count number columns found left rest set row k x room within low taken is
          adding out (cases_eq x k);
      to_do = λ x low in_rest.
          let other : x ≢ k = rest_apart left rest k x taken in_rest in
          get_or-set_other now (k * count + number) (x * count + number) set []
          (other_place count x k number number within within (inl other))
          ∙ adding.to_do x low (not_left left rest k x taken low other ∙ in_rest);
      some = λ x low in_rest. adding.some x low (not_left left rest k x taken low
          (rest_apart left rest k x taken in_rest) ∙ in_rest);
      others = λ x other low n.
          get_or-set_other now (k * count + number) (x * count + other) set []
          (other_place count x k other number low within (inr n)) ∙ adding.others x other low n;
    }

pub added-all : (old now : List (List Bool)) (count number : ℕ) (columns found left : List Bool) (row : ℕ) →
    set_columns left ≡ [] → IsAdding old count number columns found row now left →
    IsRowAdded old count number columns found row now
added-all old now count number columns found left row none adding =
    record {
      at = λ x low. adding.done x low (none_in left x none low);
      others = adding.others;
    }

-- one part in some columns --------------------------------------------------------------------------------------------

-- the part begins in a column on a row, and the column is one of these
abbrev pub wanted : Grid → Option (List ℕ) → List CompiledCell → List Bool → ℕ → ℕ → Bool
wanted g table part within x y = begins_down g table part y x && column_at within x

-- the row was found in the column
abbrev pub has_found : List (List Bool) → ℕ → ℕ → List Bool → ℕ → ℕ → Bool
has_found starts count number found x y = column_at found x && column_at (set_of starts count x number) y

-- what is wanted was found, or its row is left; what was found is in these columns
pub record IsGathering (g : Grid) (table : Option (List ℕ)) (part : List CompiledCell) (within : List Bool)
    (count number : ℕ) (old now : List (List Bool)) (found left : List Bool) : Type 0 where
  pub all : (x y : ℕ) → x < SIDE_LIMIT → y < SIDE_LIMIT →
      (has_found now count number found x y || (column_at left y && wanted g table part within x y))
      ≡ wanted g table part within x y
  pub inside : (x : ℕ) → column_at found x ≡ true → column_at within x ≡ true
  pub others : (x other : ℕ) → other < count → other ≢ number → set_of now count x other ≡ set_of old count x other

pub room_by : (g : Grid) (table : Option (List ℕ)) (part : List CompiledCell) (rows : List Bool) (x y : ℕ)
    (room : Bool) →
    nat_le (y + length part) g.height ≡ room → BeginsOnlyOn g table Down part rows →
    y < g.height → column_at rows y ≡ false → (nat_lt x g.width && (room && part_fits g table Down x part y)) ≡ false
room_by g table part rows x y true t only low out =
    let fits : y + length part ≤ g.height = grind (arith, nat_tests) in
    ap (λ (b : Bool). nat_lt x g.width && b) (only.at y x low (λ e. fits) out) ∙ and-false (nat_lt x g.width)
room_by g table part rows x y false t only low out = and-false (nat_lt x g.width)

pub below_edge : (g : Grid) (table : Option (List ℕ)) (part : List CompiledCell) (x y : ℕ) → 0 < length part →
    g.height ≤ y → begins_down g table part y x ≡ false
below_edge g table part x y some far =
    let off : nat_le (y + length part) g.height ≡ false = grind (arith, nat_tests, some, far) in
    ap (λ (b : Bool). nat_lt x g.width && (b && part_fits g table Down x part y)) off ∙ and-false (nat_lt x g.width)

init_by : (left wants : Bool) → (left ≡ false → wants ≡ false) → (left && wants) ≡ wants
init_by true wants e = refl
init_by false wants e = sym (e refl)

-- a part begins nowhere on a row that isn't one of those on which it begins
not_there : (g : Grid) (table : Option (List ℕ)) (part : List CompiledCell) (rows : List Bool)
    (columns : List (List Bool)) (x y : ℕ) → IsGrid g → AreStarts g table Down part rows columns → y < g.height →
    column_at rows y ≡ false → begins_down g table part y x ≡ false
not_there g table part rows columns x y grid are low out = elim (cases_lt x SIDE_LIMIT) [
  | inl near ↦ sym ((are.each y low).at x near) ∙ ap (λ (b : Bool). b && column_at (columns_on columns y) x) out
  | inr far ↦
      let off : nat_lt x g.width ≡ false = grind (arith, nat_tests, far, grid.columns) in
      ap (λ (b : Bool). b && (nat_le (y + length part) g.height && part_fits g table Down x part y)) off
]

pub gathering-init : (g : Grid) (table : Option (List ℕ)) (part : List CompiledCell) (within : List Bool)
    (count number : ℕ) (old columns : List (List Bool)) (found rows below left : List Bool) → IsGrid g →
    0 < length part → found ≡ no_columns → below ≡ columns_below g.height → left ≡ both_columns rows below →
    AreStarts g table Down part rows columns →
    IsGathering g table part within count number old old found left
gathering-init g table part within count number old columns found rows below left grid some none b e are =
    let passed = passed-init (λ y. (x : ℕ) → begins_down g table part y x ≡ false)
    rows below left g.height grid.rows b e
    (λ y low out x. not_there g table part rows columns x y grid are low out) in
    record {
      all = λ x y low near.
          ap (λ (b : Bool). (b && column_at (set_of old count x number) y) ||
          (column_at left y && wanted g table part within x y)) (none_has found x none)
          ∙ init_by (column_at left y) (wanted g table part within x y)
          (λ out.
          ap (λ (b : Bool). b && column_at within x)
          (elim (cases_lt y g.height) [
            | inl high ↦ passed.at y high out x
            | inr deep ↦ below_edge g table part x y some deep
          ]));
      inside = λ x is. let clash : false ≡ true = sym (none_has found x none) ∙ is in absurd (cc);
      others = λ x other low n. refl;
    }

-- one row more in one column: it is in these columns, and something was found there before
more_by : (here found : Bool) (set : List Bool) (k y : ℕ) (left rest wants : Bool) → y < SIDE_LIMIT →
    (y ≡ k) ⊎ (y ≢ k) → (y ≡ k → wants ≡ here) → (y ≢ k → left ≡ rest) →
    ((found && column_at set y) || (left && wants)) ≡ wants →
    (((found || here) && column_at (if here then with_column (if found then set else no_columns) k true else set) y) ||
    (rest && wants)) ≡ wants
more_by true true set k y left rest wants low (inl same) want still inv =
    let in_set : column_at (with_column set k true) y ≡ true = ap (λ (n : ℕ). column_at (with_column set k true) n) same
    ∙ with_here set k true (rw (← same) low) in
    ap (λ (b : Bool). b || (rest && wants)) in_set ∙ sym (want same)
more_by true false set k y left rest wants low (inl same) want still inv =
    let in_set : column_at (with_column no_columns k true) y ≡ true =
    ap (λ (n : ℕ). column_at (with_column no_columns k true) n) same ∙ with_here no_columns k true (rw (← same) low) in
    ap (λ (b : Bool). b || (rest && wants)) in_set ∙ sym (want same)
more_by true true set k y left rest wants low (inr other) want still inv =
    ap₂ (λ (b c : Bool). b || (c && wants)) (with_other set k y true low other) (sym (still other)) ∙ inv
more_by true false set k y left rest wants low (inr other) want still inv =
    ap₂ (λ (b c : Bool). b || (c && wants)) (with_other no_columns k y true low other ∙ none_has no_columns y refl)
    (sym (still other)) ∙ inv
more_by false found set k y left rest wants low (inl same) want still inv =
    let no : wants ≡ false = want same in
    let off : ((found && column_at set y) || (left && false)) ≡ false =
    ap (λ (b : Bool). (found && column_at set y) || (left && b)) (sym no) ∙ inv ∙ no in
    ap₂ (λ (b c : Bool). (b && column_at set y) || (rest && c)) (or-false found) no
    ∙ ap (λ (b : Bool). (found && column_at set y) || b) (and-false rest ∙ sym (and-false left)) ∙ off ∙ sym no
more_by false found set k y left rest wants low (inr other) want still inv =
    ap₂ (λ (b c : Bool). (b && column_at set y) || (c && wants)) (or-false found) (sym (still other)) ∙ inv

either_at : (found columns more : List Bool) (x : ℕ) → more ≡ either_columns found columns → x < SIDE_LIMIT →
    column_at more x ≡ (column_at found x || column_at columns x)
either_at found columns more x e low = ap (λ (cs : List Bool). column_at cs x) e
    ∙ column_at-where (λ y. column_at found y || column_at columns y) x low

inside_by : (found here : Bool) (inside : Bool) → (found ≡ true → inside ≡ true) → (here ≡ true → inside ≡ true) →
    (found || here) ≡ true → inside ≡ true
inside_by true here inside e d is = e refl
inside_by false true inside e d is = d refl
inside_by false false inside e d is = absurd (cc)

pub gathering-more : (g : Grid) (table : Option (List ℕ)) (part : List CompiledCell) (within : List Bool)
    (count number row : ℕ) (old now more : List (List Bool)) (found left rest fits columns found_now : List Bool) →
    number < count → set_columns left ≡ row ∷ set_columns rest → AreWhere (begins_down g table part row) fits →
    columns ≡ both_columns fits within → found_now ≡ either_columns found columns →
    IsRowAdded now count number columns found row more →
    IsGathering g table part within count number old now found left →
    IsGathering g table part within count number old more found_now rest
gathering-more g table part within count number row old now more found left rest fits columns found_now one taken
    begins c f added gathering =
    record {
      all = λ x y low near.
          let here : column_at columns x ≡ wanted g table part within x row = at_both fits within columns x c low
          ∙ ap (λ (b : Bool). b && column_at within x) (begins.at x low) in
          let wants : Bool = wanted g table part within x y in
          ap₂ (λ (b : Bool) (set : List Bool). (b && column_at set y) || (column_at rest y && wants))
          (either_at found columns found_now x f low) (added.at x low)
          ∙ more_by (column_at columns x) (column_at found x) (set_of now count x number) row y (column_at left y)
          (column_at rest y) wants near (cases_eq y row)
          (λ same. ap (wanted g table part within x) same ∙ sym here)
          (λ other. not_left left rest row y taken near other)
          (gathering.all x y low near);
      inside = λ x is. elim (cases_lt x SIDE_LIMIT) [
        | inl low ↦
            inside_by (column_at found x) (column_at columns x) (column_at within x) (gathering.inside x)
            (λ yes.
            let both = and_parts (column_at fits x) (column_at within x)
            (sym (at_both fits within columns x c low) ∙ yes) in
            both.1)
            (sym (either_at found columns found_now x f low) ∙ is)
        | inr far ↦
            let out : column_at found_now x ≡ false =
            ap (λ (cs : List Bool). column_at cs x) f
            ∙ column_at-beyond (λ y. column_at found y || column_at columns y) x far in
            let clash : false ≡ true = sym out ∙ is in absurd (cc)
      ];
      others = λ x other low n. added.others x other low n ∙ gathering.others x other low n;
    }

-- no row is left
all_found : (g : Grid) (table : Option (List ℕ)) (part : List CompiledCell) (within : List Bool) (count number : ℕ)
    (old now : List (List Bool)) (found left : List Bool) → set_columns left ≡ [] →
    IsGathering g table part within count number old now found left → (x y : ℕ) → x < SIDE_LIMIT → y < SIDE_LIMIT →
    has_found now count number found x y ≡ wanted g table part within x y
all_found g table part within count number old now found left none gathering x y low near =
    sym (ap (λ (b : Bool). has_found now count number found x y || (b && wanted g table part within x y))
    (none_in left y none near) ∙ or-false (has_found now count number found x y))
    ∙ gathering.all x y low near

wanted_in : (g : Grid) (table : Option (List ℕ)) (part : List CompiledCell) (within : List Bool) (x y : ℕ) →
    column_at within x ≡ true → x < g.width →
    wanted g table part within x y ≡ begins_on g table Down x part y
wanted_in g table part within x y is low =
    let across : nat_lt x g.width ≡ true = grind (arith, nat_tests, low) in
    ap₂ (λ (a b : Bool). (a && begins_on g table Down x part y) && b) across is
    ∙ and-true (begins_on g table Down x part y)

pub gathered-down : (g : Grid) (table : Option (List ℕ)) (part : List CompiledCell) (within : List Bool)
    (count number : ℕ) (old now : List (List Bool)) (found left : List Bool) → IsGrid g →
    ((x : ℕ) → column_at within x ≡ true → x < g.width) → set_columns left ≡ [] →
    IsGathering g table part within count number old now found left →
    IsPartFound g table Down part within count number old now found
gathered-down g table part within count number old now found left grid narrow none gathering =
    record {
      begins = λ x is.
          let here : column_at within x ≡ true = gathering.inside x is in
          let across : x < g.width = narrow x here in
          record {
            at = λ y near.
                ap (λ (b : Bool). b && column_at (set_of now count x number) y) (sym is)
                ∙ all_found g table part within count number old now found left none gathering x y
                (omega (arith, across, grid.columns)) near
                ∙ wanted_in g table part within x y here across;
          };
      inside = gathering.inside;
      none = λ x here out.
          let across : x < g.width = narrow x here in
          record {
            at = λ y near.
                sym (wanted_in g table part within x y here across)
                ∙ sym (all_found g table part within count number old now found left none gathering x y
                (omega (arith, across, grid.columns)) near)
                ∙ ap (λ (b : Bool). b && column_at (set_of now count x number) y) out;
          };
      others = gathering.others;
    }
