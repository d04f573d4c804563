-- What planes show behind a shift, and behind a motion that is given: what they show behind puts.
use Rattle.std.proofs.Common.{◌≡◌, ◌≢◌, ◌∙◌, ℕ, ◌+◌, ◌*◌, ◌/◌, ◌%◌, ◌<◌, ◌≤◌, inl, inr, Bool, true, false, Option, Some}
use Rattle.std.proofs.Common.{None, List, [], ◌∷◌, length, refl, sym, ap, arith}
use Rattle.std.specs.Prelude.{IsSome, find, nat_eq, slice_set, option_map, if◌then◌else◌}
use Rattle.std.specs.List.{list_any}
use Rattle.std.proofs.Math.Nat.{mul-le-mul_left}
use Rattle.std.proofs.lemmas.Bool.{cases_eq, eqb-true, eq-eqb, ne_eqb, or_cases, or_parts, or_left, or_right}
use Rattle.std.proofs.lemmas.Bool.{false≢true}
use Rattle.std.proofs.lemmas.List.{get_or-set_other, set-get_or}
use Rattle.std.proofs.lemmas.Nat.{mod_below}
use Rattle.std.proofs.lemmas.Option.{none-some, slice_get_within}
use Rattle.ps_model.specs.declared.limits.TheConstants.{SIDE_LIMIT}
use Rattle.ps_model.specs.declared.pieces.Direction.TheVariants.{Up, Down, Left, Right}
use Rattle.ps_model.specs.declared.pieces.Motion.{Motion}
use Rattle.ps_model.specs.declared.pieces.Motion.TheVariants.{Still, Going, Acting}
use Rattle.ps_model.specs.declared.pieces.ObjectId.{ObjectId}
use Rattle.ps_model.specs.declared.pieces.Slot.TheVariants.{Bare}
use Rattle.ps_model.specs.board.Grid.{Grid, motion_in, slot_of, with_slot}
use Rattle.ps_model.specs.board.Movement.{is_number}
use Rattle.ps_model.specs.meaning.Fitting.{same_motion}
use Rattle.ps_board.specs.ColumnSets.{column_at, no_columns, with_column}
use Rattle.ps_board.proofs.ColumnLaws.{columns-agree}
use Rattle.ps_rows.specs.Members.{on_layer}
use Rattle.ps_rows.specs.Planes.{AreEmptyFrom, AreSets, HavePlanes, IsSet, has_cell, row_of, with_cell, with_cell_in}
use Rattle.ps_rows.specs.Planes.{with_shift}
use Rattle.ps_rows.specs.Sameness.{PlanesDifferOnlyOn}
use Rattle.ps_rows.specs.Showing.{AreMotionsShown, AreObjectsShown, grid_shown, motion_plane, motion_planes}
use Rattle.ps_rows.specs.Showing.{motions_from, numbered, object_shown, slot_shown, with_slot_in}
use Rattle.ps_rows.proofs.CellsChanged.{has_cell-with_other, has_cell-with_same, length-with_cell}
use Rattle.ps_rows.proofs.Listed.{find_listed}
use Rattle.ps_rows.proofs.Marked.{sets_row}
use Rattle.ps_rows.proofs.Marks.{place_within}
use Rattle.ps_rows.proofs.MemberRanges.{listed_member}
use Rattle.ps_rows.proofs.Moves.{five_false, five_none, not_still}
use Rattle.ps_rows.proofs.Puts.{IsPut, motions_kept, objects_kept, planes_whole, written_long}
use Rattle.ps_rows.proofs.RowCopies.{row_kept}
use Rattle.ps_rows.proofs.Sets.{set_where}
use Rattle.ps_rows.proofs.Touched.{planes_stay, row_touched, slot_elsewhere}
use Rattle.ps_rows.proofs.Untouched.{five_stay}
use Rattle.ps_rows.proofs.Whole.{columns_low, put_grid}

-- a set with a column as it is
column_stays : (row : List Bool) (column : ℕ) (on : Bool) → IsSet row → column_at row column ≡ on →
    with_column row column on ≡ row
column_stays row column on is here =
    columns-agree (λ x. if nat_eq x column then on else column_at row x) (column_at row)
    (λ x low. elim (cases_eq x column) [
      | inl e ↦ rw (eq-eqb x column e) (sym here ∙ ap (column_at row) (sym e))
      | inr n ↦ rw (ne_eqb x column n) refl
    ])
    ∙ is

-- a cell put where it is, or taken from where it isn't
cell_stays : (height : ℕ) (words : List (List Bool)) (cell plane : ℕ) (on : Bool) → AreSets words →
    has_cell height words cell plane ≡ on → with_cell height words cell plane on ≡ words
unfolding has_cell with_cell
cell_stays height words cell plane on sets is =
    let place : ℕ = plane * height + cell % height in
    ap (slice_set words place) (column_stays (row_of words place) (cell / height) on (sets place) is)
    ∙ set-get_or words place no_columns

-- rows that are sets stay so
sets_with : (height : ℕ) (words : List (List Bool)) (cell plane : ℕ) (on : Bool) →
    plane * height + cell % height < length words → AreSets words → AreSets (with_cell height words cell plane on)
unfolding with_cell
sets_with height words cell plane on within sets =
    let place : ℕ = plane * height + cell % height in
    sets_row words place (with_column (row_of words place) (cell / height) on) within
    (set_where (λ x. if nat_eq x (cell / height) then on else column_at (row_of words place) x)) sets

-- planes that have the cell just where it is put
all_stay : (height cell : ℕ) (chosen : Option ℕ) (words : List (List Bool)) (planes : List ℕ) → AreSets words →
    ((q : ℕ) → list_any (nat_eq q) planes ≡ true → has_cell height words cell q ≡ is_number chosen q) →
    with_cell_in height cell chosen words planes ≡ words
unfolding with_cell_in
all_stay height cell chosen words [] sets are = refl
all_stay height cell chosen words (p ∷ ps) sets are =
    let own : list_any (nat_eq p) (p ∷ ps) ≡ true = or_left (nat_eq p p) (list_any (nat_eq p) ps) (eq-eqb p p refl) in
    ap (λ (ws : List (List Bool)). with_cell_in height cell chosen ws ps)
    (cell_stays height words cell p (is_number chosen p) sets (are p own))
    ∙ all_stay height cell chosen words ps sets
    (λ q listed. are q (or_right (nat_eq q p) (list_any (nat_eq q) ps) listed))

-- planes that have it so but for one
one_changes : (height cell : ℕ) (chosen : Option ℕ) (p : ℕ) (on : Bool) (words : List (List Bool)) (planes : List ℕ) →
    0 < height → cell / height < SIDE_LIMIT → HavePlanes height words planes → AreSets words →
    is_number chosen p ≡ on → list_any (nat_eq p) planes ≡ true →
    ((q : ℕ) → list_any (nat_eq q) planes ≡ true → q ≢ p → has_cell height words cell q ≡ is_number chosen q) →
    with_cell_in height cell chosen words planes ≡ with_cell height words cell p on
unfolding with_cell_in
one_changes height cell chosen p on words [] some low have sets chose listed others = absurd (false≢true listed)
one_changes height cell chosen p on words (q ∷ qs) some low have sets chose listed others =
    let within : p * height + cell % height < length words =
    place_within height p cell (length words) some (have p listed) in
    elim (cases_eq q p) [
      | inl e ↦
          ap (λ (k : ℕ). with_cell_in height cell chosen (with_cell height words cell k (is_number chosen k)) qs) e
          ∙ ap (λ (b : Bool). with_cell_in height cell chosen (with_cell height words cell p b) qs) chose
          ∙ all_stay height cell chosen (with_cell height words cell p on) qs
          (sets_with height words cell p on within sets)
          (λ r among. elim (cases_eq r p) [
            | inl f ↦ rw f (has_cell-with_same height words cell p on low within ∙ sym chose)
            | inr n ↦
                has_cell-with_other height words cell p on cell r some low within (λ same. n)
                ∙ others r (or_right (nat_eq r q) (list_any (nat_eq r) qs) among) n
          ])
      | inr n ↦
          let own : list_any (nat_eq q) (q ∷ qs) ≡ true = or_left (nat_eq q q) (list_any (nat_eq q) qs)
          (eq-eqb q q refl) in
          let behind : list_any (nat_eq p) qs ≡ true =
          elim (or_cases (nat_eq p q) (list_any (nat_eq p) qs) listed) [
            | inl same ↦ absurd (n (sym (eqb-true p q same)))
            | inr among ↦ among
          ] in
          ap (λ (ws : List (List Bool)). with_cell_in height cell chosen ws qs)
          (cell_stays height words cell q (is_number chosen q) sets (others q own n))
          ∙ one_changes height cell chosen p on words qs some low
          (λ r among. have r (or_right (nat_eq r q) (list_any (nat_eq r) qs) among)) sets chose behind
          (λ r among. others r (or_right (nat_eq r q) (list_any (nat_eq r) qs) among))
    ]

-- what holds of the plane of each motion
five_each : (f : ℕ → Bool) (on : Bool) (first : ℕ) →
    ((m : Motion) (q : ℕ) → motion_plane first m ≡ Some q → f q ≡ on) → (q : ℕ) →
    list_any (nat_eq q) (motion_planes first) ≡ true → f q ≡ on
five_each f on first each q listed = elim (cases_eq q first) [
  | inl e ↦ each (Going Up) q (ap Some (sym e))
  | inr a ↦ elim (cases_eq q (first + 1)) [
    | inl e ↦ each (Going Down) q (ap Some (sym e))
    | inr b ↦ elim (cases_eq q (first + 2)) [
      | inl e ↦ each (Going Left) q (ap Some (sym e))
      | inr c ↦ elim (cases_eq q (first + 3)) [
        | inl e ↦ each (Going Right) q (ap Some (sym e))
        | inr d ↦ elim (cases_eq q (first + 4)) [
          | inl e ↦ each Acting q (ap Some (sym e))
          | inr n ↦ absurd (false≢true (sym (five_none first q a b c d n) ∙ listed))
        ]
      ]
    ]
  ]
]

-- the rows of each other plane
other_plane : (height : ℕ) (words : List (List Bool)) (cell p : ℕ) (on : Bool) (plane y : ℕ) → 0 < height →
    y < height → plane ≢ p →
    row_of (with_cell height words cell p on) (plane * height + y) ≡ row_of words (plane * height + y)
unfolding with_cell
other_plane height words cell p on plane y some under apart =
    row_kept height p (cell % height) _ plane y words _ (mod_below cell height some) under (λ e. absurd (apart e)) refl

other_planes : (height cell : ℕ) (chosen : Option ℕ) (words : List (List Bool)) (listed : List ℕ) (plane y : ℕ) →
    0 < height → y < height → list_any (nat_eq plane) listed ≡ false →
    row_of (with_cell_in height cell chosen words listed) (plane * height + y) ≡ row_of words (plane * height + y)
unfolding with_cell_in
other_planes height cell chosen words [] plane y some under none = refl
other_planes height cell chosen words (p ∷ ps) plane y some under none =
    let parts = or_parts (nat_eq plane p) (list_any (nat_eq plane) ps) none in
    other_planes height cell chosen (with_cell height words cell p (is_number chosen p)) ps plane y some under parts.1
    ∙ other_plane height words cell p (is_number chosen p) plane y some under
    (λ e. false≢true (sym parts.0 ∙ eq-eqb plane p e))

-- a motion that is given changes no plane of an object
pub motion_noted : (height planes first cell : ℕ) (chosen : Option ℕ) (origin before after : List (List Bool))
    (touched : List Bool) → 0 < height → planes ≤ first →
    after ≡ with_cell_in height cell chosen before (motion_planes first) →
    PlanesDifferOnlyOn height planes origin before touched → PlanesDifferOnlyOn height planes origin after touched
motion_noted height planes first cell chosen origin before after touched some behind so noted =
    planes_stay height planes origin before after touched noted (λ plane below y under off.
    let own : plane < first = omega (arith, below, behind) in
    sym (ap (λ (ws : List (List Bool)). row_of ws (plane * height + y)) so
    ∙ other_planes height cell chosen before (motion_planes first) plane y some under
    (five_false first plane (inl own))))

-- the rows behind a number of planes stay where a cell is put into one of them
behind_stays : (height n : ℕ) (words : List (List Bool)) (cell p : ℕ) (on : Bool) (place : ℕ) → 0 < height → p < n →
    n * height ≤ place → row_of (with_cell height words cell p on) place ≡ row_of words place
unfolding with_cell
behind_stays height n words cell p on place some below far =
    let own : ℕ = p * height + cell % height in
    let under : cell % height < height = mod_below cell height some in
    let next : p + 1 ≤ n = omega (arith, below) in
    let more : height * (p + 1) ≤ height * n = mul-le-mul_left height next in
    let apart : place ≢ own = omega (arith, under, more, far) in
    get_or-set_other words own place (with_column (row_of words own) (cell / height) on) no_columns apart

shift_stays : (height n : ℕ) (words : List (List Bool)) (cell to : ℕ) (plane : Option ℕ) (place : ℕ) → 0 < height →
    ((p : ℕ) → plane ≡ Some p → p < n) → n * height ≤ place →
    row_of (with_shift height cell to plane words) place ≡ row_of words place
unfolding with_shift
shift_stays height n words cell to None place some below far = refl
shift_stays height n words cell to (Some p) place some below far =
    behind_stays height n (with_cell height words to p true) cell p false place some (below p refl) far
    ∙ behind_stays height n words to p true place some (below p refl) far

-- the object that is shown has room
shown_own : (table : List ℕ) (height : ℕ) (words : List (List Bool)) (cell layer o : ℕ) →
    object_shown table height words cell layer ≡ Some o → list_any (nat_eq o) (on_layer table layer) ≡ true
unfolding object_shown
shown_own table height words cell layer o is =
    find_listed (has_cell height words cell) (on_layer table layer) o is

-- no motion is shown where no object is
bare_still : (table : List ℕ) (height : ℕ) (words : List (List Bool)) (cell layer : ℕ) →
    object_shown table height words cell layer ≡ None → motion_in (slot_shown table height words cell layer) ≡ Still
unfolding slot_shown
bare_still table height words cell layer bare = rw bare refl

-- what is known of a board, and of a layer that it has
pub record IsShown (table : List ℕ) (layers height cells : ℕ) (words : List (List Bool)) (layer : ℕ) : Type 0 where
  pub some : 0 < height
  pub columns : (c : ℕ) → c < cells → c / height < SIDE_LIMIT
  pub layered : layer < layers
  pub whole : length words ≡ motions_from table layers * height
  pub sets : AreSets words
  pub objects : AreObjectsShown table height words cells
  pub motions : AreMotionsShown table layers height words cells

-- no number is shown where no object stands, and where one stands a number is
pub bare_shown : (shown : Option ℕ) (object : Option ObjectId) → option_map numbered shown ≡ object → object ≡ None →
    shown ≡ None
bare_shown None object e none = refl
bare_shown (Some o) object e none = absurd (none-some (numbered o) (sym none ∙ sym e))

pub still_shown : (shown : Option ℕ) (object : Option ObjectId) (motion : Motion) → option_map numbered shown ≡ object →
    IsSome object → shown ≡ None → motion ≡ Still
still_shown shown None motion e there none = absurd (false≢true there)
still_shown shown (Some o) motion e there none = absurd (none-some o (sym (ap (option_map numbered) none) ∙ e))

module _ (table : List ℕ) (layers height cells : ℕ) (words : List (List Bool)) (layer : ℕ)
    (is : IsShown table layers height cells words layer) where
  abbrev first : ℕ
  first = motions_from table layer

  abbrev own : List ℕ
  own = on_layer table layer

  -- the object there is in its plane alone
  object_known : (c : ℕ) (object : Option ℕ) → c < cells → object_shown table height words c layer ≡ object → (q : ℕ) →
      list_any (nat_eq q) own ≡ true → has_cell height words c q ≡ is_number object q
  object_known c object inside shown q listed =
      is.objects c q layer inside (listed_member table layer q listed) ∙ ap (λ (o : Option ℕ). is_number o q) shown

  motion_known : (c : ℕ) → c < cells → object_shown table height words c layer ≡ None → (q : ℕ) →
      list_any (nat_eq q) (motion_planes first) ≡ true → has_cell height words c q ≡ false
  motion_known c inside bare q listed =
      five_each (has_cell height words c) false first
      (λ m p at. is.motions c layer m p inside is.layered at
      ∙ ap (same_motion m) (bare_still table height words c layer bare) ∙ not_still first m p at) q listed

  -- what stands there is put again
  pub same_put : (c : ℕ) (motion : Motion) → c < cells →
      with_cell_in height c (motion_plane first motion) words (motion_planes first)
      ≡ with_slot_in height c own (object_shown table height words c layer) first motion words
  same_put c motion inside =
      let object : Option ℕ = object_shown table height words c layer in
      ap (λ (ws : List (List Bool)). with_cell_in height c (motion_plane first motion) ws (motion_planes first))
      (sym (all_stay height c object words own is.sets (object_known c object inside refl)))

  given : (c : ℕ) (motion : Motion) → c < cells → (object_shown table height words c layer ≡ None → motion ≡ Still) →
      IsPut table layers height cells words c layer (object_shown table height words c layer) motion
  given c motion inside still = record {
    some = is.some;
    columns = is.columns;
    inside = inside;
    layered = is.layered;
    whole = is.whole;
    room = λ o e. listed_member table layer o (shown_own table height words c layer o e);
    still = still;
  }

  module _ (c : ℕ) (motion : Motion) (inside : c < cells)
      (still : object_shown table height words c layer ≡ None → motion ≡ Still) where
    abbrev moved : List (List Bool)
    moved = with_cell_in height c (motion_plane first motion) words (motion_planes first)

    pub given_objects : AreObjectsShown table height moved cells
    given_objects =
        rw (same_put c motion inside)
        (objects_kept table layers height cells words c layer (object_shown table height words c layer) motion
        (given c motion inside still) is.objects)

    pub given_motions : AreMotionsShown table layers height moved cells
    given_motions =
        rw (same_put c motion inside)
        (motions_kept table layers height cells words c layer (object_shown table height words c layer) motion
        (given c motion inside still) is.motions)

  module _ (cell to : ℕ) (inside : cell < cells) (there : to < cells)
      (bare : object_shown table height words to layer ≡ None) where
    abbrev between : Option ℕ → List (List Bool)
    between object = with_slot_in height to own object first Still words

    abbrev puts : Option ℕ → List (List Bool)
    puts object = with_slot_in height cell own None first Still (between object)

    abbrev pub shifted : Option ℕ → List (List Bool)
    shifted object =
        with_cell_in height cell (motion_plane first Still) (with_shift height cell to object words)
        (motion_planes first)

    -- an object comes to the one cell, and goes from the other
    object_shifted : (p : ℕ) → object_shown table height words cell layer ≡ Some p → shifted (Some p) ≡ puts (Some p)
    unfolding with_shift
    object_shifted p shown =
        let listed : list_any (nat_eq p) own ≡ true = shown_own table height words cell layer p shown in
        let within : p < length table = slice_get_within table p layer (listed_member table layer p listed) in
        let have : HavePlanes height words own = planes_whole table layers height words layer is.whole in
        let come : List (List Bool) = with_cell height words to p true in
        let place : p * height + to % height < length words =
        place_within height p to (length words) is.some (have p listed) in
        let come_sets : AreSets come = sets_with height words to p true place is.sets in
        let come_have : HavePlanes height come own = λ q among. rw length-with_cell (have q among) in
        let put : with_cell_in height to (Some p) words own ≡ come =
        one_changes height to (Some p) p true words own is.some (is.columns to there) have is.sets (eq-eqb p p refl)
        listed (λ q among n. object_known to None there bare q among ∙ sym (ne_eqb p q (λ e. n (sym e)))) in
        let still : with_cell_in height to None come (motion_planes first) ≡ come =
        all_stay height to None come (motion_planes first) come_sets
        (λ q among.
        let apart : q ≢ p = λ e. false≢true (sym (five_false first p (inl (omega (arith, within))))
        ∙ ap (λ (k : ℕ). list_any (nat_eq k) (motion_planes first)) (sym e) ∙ among) in
        has_cell-with_other height words to p true to q is.some (is.columns to there) place (λ same. apart)
        ∙ motion_known to there bare q among) in
        let came : between (Some p) ≡ come =
        ap (λ (ws : List (List Bool)). with_cell_in height to None ws (motion_planes first)) put ∙ still in
        let gone : with_cell_in height cell None come own ≡ with_cell height come cell p false =
        one_changes height cell None p false come own is.some (is.columns cell inside) come_have come_sets refl listed
        (λ q among n. has_cell-with_other height words to p true cell q is.some (is.columns cell inside) place
        (λ same. n) ∙ object_known cell (Some p) inside shown q among ∙ ne_eqb p q (λ e. n (sym e))) in
        ap (λ (ws : List (List Bool)). with_cell_in height cell None ws (motion_planes first)) (sym gone)
        ∙ ap (λ (ws : List (List Bool)). with_slot_in height cell own None first Still ws) (sym came)

    none_shifted : object_shown table height words cell layer ≡ None → shifted None ≡ puts None
    unfolding with_shift
    none_shifted shown =
        let put : with_cell_in height to None words own ≡ words =
        all_stay height to None words own is.sets (object_known to None there bare) in
        let still : with_cell_in height to None words (motion_planes first) ≡ words =
        all_stay height to None words (motion_planes first) is.sets (motion_known to there bare) in
        let came : between None ≡ words =
        ap (λ (ws : List (List Bool)). with_cell_in height to None ws (motion_planes first)) put ∙ still in
        let gone : with_cell_in height cell None words own ≡ words =
        all_stay height cell None words own is.sets (object_known cell None inside shown) in
        ap (λ (ws : List (List Bool)). with_cell_in height cell None ws (motion_planes first)) (sym gone)
        ∙ ap (λ (ws : List (List Bool)). with_slot_in height cell own None first Still ws) (sym came)

    -- the words that the method leaves
    pub shifted_by : (high from : ℕ) (listed : List ℕ) (come after : List (List Bool)) → high ≡ height → from ≡ first →
        listed ≡ own → come ≡ with_shift height cell to (find (has_cell height words cell) listed) words →
        after ≡ with_cell_in high cell (motion_plane from Still) come (motion_planes from) →
        after ≡ shifted (object_shown table height words cell layer)
    unfolding object_shown
    shifted_by high from listed come after tall begin all made so = so ∙ rw (tall, begin, made, all) refl

    pub shift_puts : (object : Option ℕ) → object_shown table height words cell layer ≡ object →
        shifted object ≡ puts object
    shift_puts None shown = none_shifted shown
    shift_puts (Some p) shown = object_shifted p shown

    -- the two puts
    module _ (object : Option ℕ) (shown : object_shown table height words cell layer ≡ object) where
      coming : IsPut table layers height cells words to layer object Still
      coming = record {
        some = is.some;
        columns = is.columns;
        inside = there;
        layered = is.layered;
        whole = is.whole;
        room = λ o e. listed_member table layer o (shown_own table height words cell layer o (shown ∙ e));
        still = λ none. refl;
      }

      going : IsPut table layers height cells (between object) cell layer None Still
      going = record {
        some = is.some;
        columns = is.columns;
        inside = inside;
        layered = is.layered;
        whole = written_long table layers height cells words to layer object Still coming ∙ is.whole;
        room = λ o e. absurd (none-some o e);
        still = λ none. refl;
      }

      pub shift_objects : AreObjectsShown table height (puts object) cells
      shift_objects =
          objects_kept table layers height cells (between object) cell layer None Still going
          (objects_kept table layers height cells words to layer object Still coming is.objects)

      pub shift_motions : AreMotionsShown table layers height (puts object) cells
      shift_motions =
          motions_kept table layers height cells (between object) cell layer None Still going
          (motions_kept table layers height cells words to layer object Still coming is.motions)

      pub shift_noted : (planes : ℕ) (origin : List (List Bool)) (touched : List Bool) → height ≤ SIDE_LIMIT →
          PlanesDifferOnlyOn height planes origin words touched →
          PlanesDifferOnlyOn height planes origin (puts object)
          (with_column (with_column touched (to % height) true) (cell % height) true)
      shift_noted planes origin touched short noted =
          row_touched height planes origin (between object) (puts object) (with_column touched (to % height) true)
          (row_touched height planes origin words (between object) touched noted (to % height) short
          (λ plane y below under apart.
          slot_elsewhere height to own object first Still words plane y is.some under apart))
          (cell % height) short
          (λ plane y below under apart.
          slot_elsewhere height cell own None first Still (between object) plane y is.some under apart)

      -- nothing moves where nothing moved
      pub shift_rests : AreEmptyFrom (length table * height) words →
          AreEmptyFrom (length table * height) (shifted object)
      shift_rests rest = λ place far.
          let come : List (List Bool) = with_shift height cell to object words in
          let low : (p : ℕ) → object ≡ Some p → p < length table = λ p e.
          slice_get_within table p layer
          (listed_member table layer p (shown_own table height words cell layer p (shown ∙ e))) in
          let empty : AreEmptyFrom (length table * height) come = λ k beyond.
          shift_stays height (length table) words cell to object k is.some low beyond ∙ rest k beyond in
          let five : come ≡ shifted object =
          five_stay height cell first come (λ plane above below.
          let behind : length table ≤ plane = omega (arith, above) in
          let more : height * length table ≤ height * plane = mul-le-mul_left height behind in
          empty (plane * height + cell % height) (omega (arith, more))) in
          ap (λ (ws : List (List Bool)). row_of ws place) (sym five) ∙ empty place far

-- and a board knows it of itself
pub shown_facts : (table : List ℕ) (width height layers : ℕ) (words : List (List Bool)) (layer : ℕ) → 0 < height →
    width ≤ SIDE_LIMIT → layer < layers → length words ≡ motions_from table layers * height → AreSets words →
    AreObjectsShown table height words (width * height) → AreMotionsShown table layers height words (width * height) →
    IsShown table layers height (width * height) words layer
shown_facts table width height layers words layer some narrow on whole sets objects motions = record {
  some = some;
  columns = columns_low width height some narrow;
  layered = on;
  whole = whole;
  sets = sets;
  objects = objects;
  motions = motions;
}

-- the grid with a motion given, and with an object shifted
pub given_grid : (table : List ℕ) (width height layers : ℕ) (words : List (List Bool)) (layer : ℕ)
    (is : IsShown table layers height (width * height) words layer) (cell : ℕ) (motion : Motion)
    (object : Option ObjectId) (inside : cell < width * height)
    (still : object_shown table height words cell layer ≡ None → motion ≡ Still) →
    option_map numbered (object_shown table height words cell layer) ≡ object →
    grid_shown table width height layers
    (with_cell_in height cell (motion_plane (motions_from table layer) motion) words
    (motion_planes (motions_from table layer)))
    ≡ with_slot (grid_shown table width height layers words) cell layer (slot_of object motion)
given_grid table width height layers words layer is cell motion object inside still e =
    put_grid table width height layers words _ cell layer (object_shown table height words cell layer) object motion
    (given table layers height (width * height) words layer is cell motion inside still) e
    (same_put table layers height (width * height) words layer is cell motion inside)

pub shift_grid : (table : List ℕ) (width height layers : ℕ) (words after : List (List Bool)) (layer : ℕ)
    (is : IsShown table layers height (width * height) words layer) (cell to : ℕ) (inside : cell < width * height)
    (there : to < width * height) (bare : object_shown table height words to layer ≡ None) (object : Option ObjectId) →
    option_map numbered (object_shown table height words cell layer) ≡ object →
    after ≡ puts table layers height (width * height) words layer is cell to inside there bare
    (object_shown table height words cell layer) →
    grid_shown table width height layers after
    ≡ with_slot (with_slot (grid_shown table width height layers words) to layer (slot_of object Still)) cell layer Bare
shift_grid table width height layers words after layer is cell to inside there bare object e so =
    let shown : Option ℕ = object_shown table height words cell layer in
    let come : List (List Bool) = between table layers height (width * height) words layer is cell to inside there bare
    shown in
    put_grid table width height layers come after cell layer None None Still
    (going table layers height (width * height) words layer is cell to inside there bare shown refl) refl so
    ∙ ap (λ (g : Grid). with_slot g cell layer Bare)
    (put_grid table width height layers words come to layer shown object Still
    (coming table layers height (width * height) words layer is cell to inside there bare shown refl) e refl)
