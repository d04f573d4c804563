-- What is known of sections that are woken, or looked at anew.
use Rattle.std.proofs.Common.{◌≡◌, ◌≢◌, ◌∙◌, ℕ, zero, suc, ◌+◌, ◌*◌, ◌<◌, ◌≤◌, ◌++◌, inl, inr, Bool, true}
use Rattle.std.proofs.Common.{Option, Some, None, List, []}
use Rattle.std.proofs.Common.{◌∷◌, length, get_or, refl, sym, ap, ap₂, subst, arith}
use Rattle.std.specs.Prelude.{All, option_map, slice_get, slice_set}
use Rattle.std.specs.Option.{is_some}
use Rattle.std.proofs.lemmas.Bool.{cases_eq, cases_lt, false≢true}
use Rattle.std.proofs.lemmas.List.{get_or-set_other, get_or-set_same, get_or_append_left, get_or_default}
use Rattle.std.proofs.lemmas.List.{length-append, length-set}
use Rattle.std.proofs.Math.Seq.{get_or-append_seam}
use Rattle.std.proofs.lemmas.Option.{get_or_from_slice_get, same_Some, slice_get-get_or, slice_get_past}
use Rattle.std.proofs.lemmas.Option.{slice_get_within}
use Rattle.ps_model.specs.board.Grid.{Grid, IsGrid}
use Rattle.ps_board.specs.ColumnSets.{both_columns, set_columns}
use Rattle.ps_match.specs.Topics.{DifferOnlyAbout}
use Rattle.ps_program.specs.declared.program.CompiledSection.{CompiledSection}
use Rattle.ps_engine.specs.TopicsAsked.{HasGroup}
use Rattle.ps_engine.specs.Waking.{AreUnknown, AreWoken, IsSameBut, IsUnknown}
use Rattle.ps_engine.specs.QuietGroups.{AreKnown, IsIdleOn, IsKnown, IsKnownOfEach}
use Rattle.ps_engine.specs.declared.quiet_groups.KnownSection.{KnownSection}
use Rattle.ps_engine.proofs.Stirred.{differ_back, section_idle}

-- the element of a place behind one more, and behind a change of one
pub get_appended : {X : Type 0} (xs : List X) (x y : X) (n : ℕ) → slice_get (xs ++ x ∷ []) n ≡ Some y → n < length xs →
    slice_get xs n ≡ Some y
get_appended xs x y n at low =
    slice_get-get_or xs n y low
    ∙ ap Some (sym (get_or_append_left xs (x ∷ []) y n low) ∙ get_or_from_slice_get (xs ++ x ∷ []) n y y at)

pub get_last : {X : Type 0} (xs : List X) (x y : X) (n : ℕ) → slice_get (xs ++ x ∷ []) n ≡ Some y → n ≡ length xs →
    x ≡ y
get_last xs x y n at e =
    sym (get_or-append_seam xs x [] y) ∙ ap (λ (k : ℕ). get_or (xs ++ x ∷ []) k y) (sym e)
    ∙ get_or_from_slice_get (xs ++ x ∷ []) n y y at

-- a section more
pub unknown_more : (sections : List CompiledSection) (known : List KnownSection) (n : ℕ) (section : CompiledSection)
    (known_section : KnownSection) (all : List KnownSection) → all ≡ known ++ known_section ∷ [] → length known ≡ n →
    n < length sections → section ≡ get_or sections n section → IsUnknown section known_section →
    AreUnknown sections known → AreUnknown sections all
unknown_more sections known n section known_section all is long low here told before k other found at there =
    let there' : slice_get (known ++ known_section ∷ []) k ≡ Some found =
    ap (λ (ws : List KnownSection). slice_get ws k) (sym is)
    ∙ there in
    elim (cases_eq k n) [
      | inl e ↦
          let same : known_section ≡ found = get_last known known_section found k there' (e ∙ sym long) in
          let own : section ≡ other = here ∙ get_or_default sections n section other low
          ∙ ap (λ (j : ℕ). get_or sections j other) (sym e) ∙ get_or_from_slice_get sections k other other at in
          subst (λ (w : KnownSection). IsUnknown other w) same
          (subst (λ (s : CompiledSection). IsUnknown s known_section) own told)
      | inr apart ↦
          let inside : k < length all = slice_get_within all k found there in
          let low' : k < length known = omega (arith, inside, apart, long, long_more known known_section all is) in
          before k other found at (get_appended known known_section found k there' low')
    ]
  where
    long_more : (known : List KnownSection) (known_section : KnownSection) (all : List KnownSection) →
        all ≡ known ++ known_section ∷ [] → length all ≡ length known + 1
    long_more known known_section all is = ap length is ∙ length-append known (known_section ∷ [])

-- one more is woken, or forgotten
pub one_more : {W : Type 0} (P : W → W → Type 0) (ws now : List W) (n : ℕ) (next : List W) (made : W) →
    ((k : ℕ) (w : W) → k < n → slice_get now k ≡ Some w → (was : W) × (slice_get ws k ≡ Some was) × P was w) →
    ((k : ℕ) → n ≤ k → slice_get now k ≡ slice_get ws k) → next ≡ slice_set now n made → n < length now →
    ((d : W) → P (get_or now n d) made) →
    (k : ℕ) (w : W) → k < n + 1 → slice_get next k ≡ Some w → (was : W) × (slice_get ws k ≡ Some was) × P was w
one_more P ws now n next made before left is low told k w under at = elim (cases_eq k n) [
  | inl e ↦
      let here : get_or next n w ≡ made = ap (λ (xs : List _). get_or xs n w) is ∙ get_or-set_same now n made w low in
      let same : made ≡ w = sym here ∙ ap (λ (j : ℕ). get_or next j w) (sym e)
      ∙ get_or_from_slice_get next k w w at in (
        get_or now n w,
        ap (slice_get ws) e ∙ sym (left n (omega arith)) ∙ slice_get-get_or now n w low,
        subst (λ (x : _). P (get_or now n w) x) same (told w),
      )
  | inr apart ↦
      let inside : k < length next = slice_get_within next k w at in
      let there : get_or next k w ≡ get_or now k w = ap (λ (xs : List _). get_or xs k w) is
      ∙ get_or-set_other now n k made w apart in
      let inside' : k < length now = omega (arith, inside, same_length now n next made is) in
      before k w (omega (arith, under, apart)) (slice_get-get_or now k w inside'
      ∙ ap Some (sym there ∙ get_or_from_slice_get next k w w at))
]
  where
    same_length : {W : Type 0} (now : List W) (n : ℕ) (next : List W) (made : W) → next ≡ slice_set now n made →
        length next ≡ length now
    same_length now n next made is = ap length is ∙ length-set now n made

get_set_other : {W : Type 0} (xs : List W) (i j : ℕ) (x : W) → j ≢ i → slice_get (slice_set xs i x) j ≡ slice_get xs j
get_set_other xs i j x apart = elim (cases_lt j (length xs)) [
  | inl low ↦ slice_get-get_or (slice_set xs i x) j x (omega (arith, low, length-set xs i x))
      ∙ ap Some (get_or-set_other xs i j x x apart) ∙ sym (slice_get-get_or xs j x low)
  | inr far ↦ slice_get_past (slice_set xs i x) j (omega (arith, far, length-set xs i x))
      ∙ sym (slice_get_past xs j far)
]

pub others_left : {W : Type 0} (ws now : List W) (n : ℕ) (next : List W) (made : W) →
    ((k : ℕ) → n ≤ k → slice_get now k ≡ slice_get ws k) → next ≡ slice_set now n made →
    (k : ℕ) → n + 1 ≤ k → slice_get next k ≡ slice_get ws k
others_left ws now n next made left is k far = ap (λ (xs : List _). slice_get xs k) is
    ∙ get_set_other now n k made (omega arith) ∙ left k (omega arith)

-- what is known behind all of it ------------------------------------------------------------------------------------

-- where nothing is kept, or what is known stems from what was unknown, nothing is claimed
pub known_unknown : (kept : Option (Grid × Option (List ℕ))) (sections : List CompiledSection)
    (known : List KnownSection) → AreUnknown sections known → AreKnown kept sections known
known_unknown kept sections known unknown n section known_section at there =
    let told : IsUnknown section known_section = unknown n section known_section at there in
    record {
      asks = told.asks;
      idle = λ g table is quiet. absurd (false≢true (sym told.loud ∙ quiet));
    }

area : (g h : Grid) → g.width ≡ h.width → g.height ≡ h.height → g.width * g.height ≡ h.width * h.height
area g h wide high = rw (wide, high) refl

-- another board of the same sides is kept in place of the one before
pub known_woken : (g h : Grid) (table kept_table : Option (List ℕ)) (stirred : List Bool)
    (sections : List CompiledSection) (known after : List KnownSection) → IsGrid g → IsGrid h →
    g.width ≡ h.width → g.height ≡ h.height → kept_table ≡ table → DifferOnlyAbout stirred h g →
    AreKnown (Some (g, kept_table)) sections known → AreWoken stirred known after →
    AreKnown (Some (h, table)) sections after
known_woken g h table kept_table stirred sections known after shape shape' wide high same differ told woken n section
    known_section at there =
    let was = woken n known_section there in
    let before : IsKnown (Some (g, kept_table)) section was.0 = told n section was.0 at was.1 in
    let long : length g.cells ≡ length h.cells = shape.cells ∙ area g h wide high ∙ sym shape'.cells in
    record {
      asks = λ rules is. subst (λ (topics : List Bool). HasGroup topics section) (sym was.2.topics)
          (before.asks) rules is;
      idle = λ k t is quiet.
          let own : IsIdleOn g kept_table section = before.idle g kept_table refl (was.2.quiet quiet) in
          let other : IsIdleOn h kept_table section = section_idle g h (was.0).topics stirred
          (differ_back stirred h g differ) (was.2.apart quiet) wide high long kept_table section before.asks own in
          let parts = same_Some (h, table) (k, t) is in
          subst (λ (p : Grid × Option (List ℕ)). IsIdleOn p.0 p.1 section) parts
          (subst (λ (x : Option (List ℕ)). IsIdleOn h x section) same other);
    }

-- what a copy shows
pub two_same : (g h : Grid) (table other : Option (List ℕ)) → h ≡ g → other ≡ table →
    ◌≡◌ {A = Option (Grid × Option (List ℕ))} (Some (g, table)) (Some (h, other))
two_same g h table other grids tables = ap₂ (λ (k : Grid) (t : Option (List ℕ)).
    let both : Grid × Option (List ℕ) = (k, t) in Some both) (sym grids) (sym tables)

-- a board that differs from what is kept in nothing that a section asks about
module _ {X : Type 0} (view : X → Grid × Option (List ℕ)) (sections : List CompiledSection)
    (known : List KnownSection) (n : ℕ) (section : CompiledSection) (known_section : KnownSection) (stirred : List Bool)
    (g : Grid) (table : Option (List ℕ)) (shape : IsGrid g) (at : slice_get sections n ≡ Some section)
    (there : slice_get known n ≡ Some known_section) (apart : set_columns (both_columns known_section.topics stirred) ≡ []) where
  -- it is idle on both or on neither
  carried : (kept : Grid) (kept_table : Option (List ℕ)) → IsSameBut stirred g table kept kept_table →
      HasGroup known_section.topics section → IsIdleOn kept kept_table section → IsIdleOn g table section
  carried kept kept_table same asks idle =
      let wide : kept.width ≡ g.width = ap (λ (s : ℕ × ℕ × ℕ). s.0) same.sides in
      let high : kept.height ≡ g.height = ap (λ (s : ℕ × ℕ × ℕ). s.1) same.sides in
      let long : length kept.cells ≡ length g.cells = (same.shape).cells ∙ area kept g wide high ∙ sym shape.cells in
      subst (λ (t : Option (List ℕ)). IsIdleOn g t section) same.same_table
      (section_idle kept g known_section.topics stirred (differ_back stirred g kept same.differ) apart wide high long kept_table
      section asks idle)

  back : (kept : Grid) (kept_table : Option (List ℕ)) → IsSameBut stirred g table kept kept_table →
      HasGroup known_section.topics section → IsIdleOn g table section → IsIdleOn kept kept_table section
  back kept kept_table same asks idle =
      let wide : g.width ≡ kept.width = sym (ap (λ (s : ℕ × ℕ × ℕ). s.0) same.sides) in
      let high : g.height ≡ kept.height = sym (ap (λ (s : ℕ × ℕ × ℕ). s.1) same.sides) in
      let long : length g.cells ≡ length kept.cells = shape.cells ∙ area g kept wide high ∙ sym (same.shape).cells in
      subst (λ (t : Option (List ℕ)). IsIdleOn kept t section) (sym same.same_table)
      (section_idle g kept known_section.topics stirred same.differ apart wide high long table section asks idle)

  pub known_idle : (board : Option X) → is_some board ≡ true →
      AreKnown (option_map view board) sections known →
      ((k : Grid) (t : Option (List ℕ)) → option_map view board ≡ Some (k, t) → IsSameBut stirred g table k t) →
      known_section.quiet ≡ true → IsIdleOn g table section
  known_idle None some each_known same quiet = absurd (false≢true some)
  known_idle (Some board) some each_known same quiet =
      let told = each_known n section known_section at there in
      let k : Grid = (view board).0 in
      let t : Option (List ℕ) = (view board).1 in
      carried k t (same k t refl) told.asks (told.idle k t refl quiet)

  pub known_noted : (board : Option X) (quiet : Bool) (after : List KnownSection) →
      AreKnown (option_map view board) sections known →
      ((k : Grid) (t : Option (List ℕ)) → option_map view board ≡ Some (k, t) → IsSameBut stirred g table k t) →
      (quiet ≡ true → IsIdleOn g table section) →
      after ≡ slice_set known n (record { topics = known_section.topics; quiet = quiet }) →
      AreKnown (option_map view board) sections after
  known_noted board quiet after each_known same idle is k other found here stands =
      let made : KnownSection = record { topics = known_section.topics; quiet = quiet } in
      let asks : HasGroup known_section.topics section = (each_known n section known_section at there).asks in
      let noted : IsKnown (option_map view board) section made = record {
        asks = asks;
        idle = λ kept kept_table shown yes. back kept kept_table (same kept kept_table shown) asks (idle yes);
      } in
      elim (cases_eq k n) [
        | inl e ↦
            let low : n < length known = slice_get_within known n known_section there in
            let own : section ≡ other = same_Some section other (sym at ∙ ap (slice_get sections) (sym e) ∙ here) in
            let one : get_or after n found ≡ made = ap (λ (ws : List KnownSection). get_or ws n found) is
            ∙ get_or-set_same known n made found low in
            let same_watch : made ≡ found = sym one ∙ ap (λ (j : ℕ). get_or after j found) (sym e)
            ∙ get_or_from_slice_get after k found found stands in
            subst (λ (w : KnownSection). IsKnown (option_map view board) other w) same_watch
            (subst (λ (s : CompiledSection). IsKnown (option_map view board) s made) own noted)
        | inr far ↦ each_known k other found here (sym (get_set_other known n k made far)
            ∙ ap (λ (ws : List KnownSection). slice_get ws k) (sym is) ∙ stands)
      ]

-- what stands at a place
pub watch_there : (sections : List CompiledSection) (known : List KnownSection) (n : ℕ) (section : CompiledSection)
    (known_section : KnownSection) → slice_get sections n ≡ Some section → length known ≡ length sections →
    known_section ≡ get_or known n known_section → slice_get known n ≡ Some known_section
watch_there sections known n section known_section at long is =
    slice_get-get_or known n known_section (omega (arith, slice_get_within sections n section at, long))
    ∙ ap Some (sym is)

pub watch_same : (known : List KnownSection) (n : ℕ) (one known_section : KnownSection) → one ≡ get_or known n one →
    slice_get known n ≡ Some known_section → one ≡ known_section
watch_same known n one known_section is there = is ∙ get_or_from_slice_get known n known_section one there

pub section_there : (sections others : List CompiledSection) (n : ℕ) (section : CompiledSection) → sections ≡ others →
    n < length others → section ≡ get_or sections n section → slice_get sections n ≡ Some section
section_there sections others n section same low is =
    slice_get-get_or sections n section (omega (arith, low, ap length same)) ∙ ap Some (sym is)

-- what holds of each element of a list holds of the one that stands at a place
pub each_there : {X : Type 0} (P : X → Type 0) (xs others : List X) (n : ℕ) (x : X) → xs ≡ others → n < length others →
    x ≡ get_or xs n x → All P others → P x
each_there P xs others n x same low is all =
    subst P (sym (is ∙ ap (λ (ys : List _). get_or ys n x) same)) (all n x low)

pub found_at : {X : Type 0} (xs : List X) (n : ℕ) → n < length xs → (x : X) × (slice_get xs n ≡ Some x)
found_at [] n low = absurd (omega (arith, low))
found_at (x ∷ xs) zero low = (x, refl)
found_at (x ∷ xs) (suc n) low = found_at xs n (omega (arith, low))

-- of no section anything is known, so that what is known is so
pub known_nothing : (kept : Option (Grid × Option (List ℕ))) (sections : List CompiledSection) →
    AreKnown kept sections []
known_nothing kept sections n section known_section at there = absurd (false≢true (ap is_some there))

-- where a board is kept, something is known of each section
pub known_of_each : {B : Type 0} (board : Option B) (sections : List CompiledSection) (known : List KnownSection) →
    is_some board ≡ true → IsKnownOfEach board sections known → length known ≡ length sections
known_of_each None sections known some each = absurd (false≢true some)
known_of_each (Some board) sections known some each = each

pub still_each : {B : Type 0} (board : Option B) (sections : List CompiledSection) (known after : List KnownSection) →
    length after ≡ length known → IsKnownOfEach board sections known → IsKnownOfEach board sections after
still_each None sections known after same each = tt
still_each (Some board) sections known after same each = same ∙ each
