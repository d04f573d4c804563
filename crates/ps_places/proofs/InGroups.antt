-- Places of a part that leave each other alone, written group by group of them: of a group the cells with one index
-- after the other.
use Rattle.std.proofs.Common.{◌≡◌, ◌≢◌, ◌∙◌, ℕ, zero, suc, ◌+◌, ◌-◌, ◌*◌, ◌<◌, ◌≤◌, ◌||◌, ◌&&◌, inl, inr, Bool, true}
use Rattle.std.proofs.Common.{false}
use Rattle.std.proofs.Common.{Some, List, [], ◌∷◌, length, refl, subst, sym, ap, ap₂, arith}
use Rattle.std.specs.Prelude.{if◌then◌else◌, nat_le, nat_lt, slice_get}
use Rattle.std.proofs.Math.Bool.{and-false, or-false, or-true}
use Rattle.std.proofs.Math.Nat.{add-mul}
use Rattle.std.proofs.lemmas.Bool.{and_parts, cases_Bool, cases_eq, cases_lt, le-ltb, lt-ltb}
use Rattle.std.proofs.lemmas.Bool.Decides.{nat_tests}
use Rattle.ps_model.specs.declared.pieces.Slot.{Slot}
use Rattle.ps_model.specs.board.Grid.{Grid, cell_at}
use Rattle.ps_model.specs.board.Attempts.{Rewritten}
use Rattle.ps_model.specs.meaning.RuleMeanings.{CellMeaning}
use Rattle.ps_match.proofs.RowWritten.{lt_next}
use Rattle.ps_places.proofs.WrittenAs.{IsStep, as-agree, as-still, written_as}

-- what becomes of a cell ----------------------------------------------------------------------------------------------

-- a cell written by the first cell of a rule, of some that have these indices, which is done there
abbrev pub written_by : (ℕ → ℕ → Bool) → ℕ → List CellMeaning → ℕ → List Slot → List Slot
written_by done k [] n cell = cell
written_by done k (m ∷ ms) n cell = if done k n then m.rewritten cell else written_by done (k + 1) ms n cell

pub by-none : (done : ℕ → ℕ → Bool) (k : ℕ) (ms : List CellMeaning) (n : ℕ) (cell : List Slot) →
    ((j : ℕ) → k ≤ j → j < k + length ms → done j n ≡ false) → written_by done k ms n cell ≡ cell
by-none done k [] n cell none = refl
by-none done k (m ∷ ms) n cell none =
    rw (none k (omega arith) (omega arith))
    (by-none done (k + 1) ms n cell (λ j low high. none j (omega arith) (omega arith)))

by-agree : (first second : ℕ → ℕ → Bool) (k : ℕ) (ms : List CellMeaning) (n : ℕ) (cell : List Slot) →
    ((j : ℕ) → k ≤ j → j < k + length ms → first j n ≡ second j n) →
    written_by first k ms n cell ≡ written_by second k ms n cell
by-agree first second k [] n cell same = refl
by-agree first second k (m ∷ ms) n cell same =
    ap₂ (λ (b : Bool) (c : List Slot). if b then m.rewritten cell else c) (same k (omega arith) (omega arith))
    (by-agree first second (k + 1) ms n cell (λ j low high. same j (omega arith) (omega arith)))

by-one : (done : ℕ → ℕ → Bool) (k : ℕ) (ms : List CellMeaning) (n : ℕ) (cell : List Slot) (i : ℕ) (m : CellMeaning) →
    slice_get ms i ≡ Some m → done (k + i) n ≡ true → ((j : ℕ) → k ≤ j → j < k + i → done j n ≡ false) →
    written_by done k ms n cell ≡ m.rewritten cell
by-one done k [] n cell i m is here before = absurd (cc)
by-one done k (first ∷ ms) n cell zero m is here before =
    let same : first ≡ m = cc in
    let at : k + 0 ≡ k = omega arith in
    let now : done k n ≡ true = ap (λ (j : ℕ). done j n) (sym at) ∙ here in
    rw (now, same) refl
by-one done k (first ∷ ms) n cell (suc i) m is here before =
    let next : k + 1 + i ≡ k + suc i = omega arith in
    rw (before k (omega arith) (omega arith))
    (by-one done (k + 1) ms n cell i m is (ap (λ (j : ℕ). done j n) next ∙ here)
    (λ j low high. before j (omega arith) (omega arith)))

-- or by none
pub by-cases : (done : ℕ → ℕ → Bool) (k : ℕ) (ms : List CellMeaning) (n : ℕ) (cell : List Slot) (Holds : List Slot →
    Type 0) → Holds cell →
    ((j : ℕ) (m : CellMeaning) → slice_get ms j ≡ Some m → done (k + j) n ≡ true → Holds (m.rewritten cell)) →
    Holds (written_by done k ms n cell)
by-cases done k [] n cell Holds itself each = itself
by-cases done k (m ∷ ms) n cell Holds itself each = elim (cases_Bool (done k n)) [
  | inl now ↦
      let at : k ≡ k + 0 = omega arith in
      subst Holds (sym (here now)) (each 0 m refl (ap (λ (j : ℕ). done j n) (sym at) ∙ now))
  | inr not_now ↦
      subst Holds (sym (rest not_now))
      (by-cases done (k + 1) ms n cell Holds itself
      (λ j other is there. let next : k + 1 + j ≡ k + suc j = omega arith in
      each (suc j) other is (ap (λ (i : ℕ). done i n) (sym next) ∙ there)))
] where
  here : done k n ≡ true → written_by done k (m ∷ ms) n cell ≡ m.rewritten cell
  here now = rw now refl

  rest : done k n ≡ false → written_by done k (m ∷ ms) n cell ≡ written_by done (k + 1) ms n cell
  rest not_now = rw not_now refl

-- places --------------------------------------------------------------------------------------------------------------

-- the cell is the one with an index of a place that starts somewhere
abbrev pub covers : (ℕ → Bool) → ℕ → ℕ → ℕ → Bool
covers starts step k n = nat_le (k * step) n && starts (n - k * step)

-- a place that starts, and so many cells behind its first one
pub covers-on : (starts : ℕ → Bool) (step k e : ℕ) → starts e ≡ true → covers starts step k (e + k * step) ≡ true
covers-on starts step k e on =
    let low : k * step ≤ e + k * step = omega arith in
    let within : nat_le (k * step) (e + k * step) ≡ true = grind (arith, nat_tests, low) in
    let back : e + k * step - k * step ≡ e = omega arith in
    rw (within, back) on

pub covers-parts : (starts : ℕ → Bool) (step k n : ℕ) → covers starts step k n ≡ true →
    (k * step ≤ n) × (starts (n - k * step) ≡ true)
covers-parts starts step k n on =
    let both = and_parts (nat_le (k * step) n) (starts (n - k * step)) on in
    let low : nat_le (k * step) n ≡ true = both.0 in (grind (arith, nat_tests, low), both.1)

-- behind one cell's write another one fits a mask that it fitted
abbrev pub Keeps : CellMeaning → CellMeaning → Type 0
Keeps writing asking = (cell : List Slot) → asking.fits cell ≡ true → asking.fits (writing.rewritten cell) ≡ true

abbrev pub KeepsOf : List CellMeaning → ℕ → ℕ → Type 0
KeepsOf all i j = (writing asking : CellMeaning) → slice_get all i ≡ Some writing → slice_get all j ≡ Some asking →
    Keeps writing asking

-- two cells of a rule leave each other alone on one cell of the board: one at most changes it, and keeps what the other
-- asks for
pub record LeaveAlone (all : List CellMeaning) (changes : ℕ → Bool) (i j : ℕ) : Type 0 where
  pub one : changes i ≡ true → changes j ≡ false
  pub first : changes i ≡ true → KeepsOf all i j
  pub second : changes j ≡ true → KeepsOf all j i

-- so do all pairs of cells that may lie on one cell of the board, where parts start so
pub record AreAlone (starts : ℕ → Bool) (step : ℕ) (all : List CellMeaning) (changes : ℕ → Bool) : Type 0 where
  pub at : (e distance k : ℕ) → 0 < distance → k + distance < length all → starts e ≡ true →
      starts (e + distance * step) ≡ true →
      LeaveAlone all changes k (k + distance)

-- a cell that changes nothing stays where it fits
abbrev pub AreIdle : List CellMeaning → (ℕ → Bool) → Type 0
AreIdle all changes = (k : ℕ) (m : CellMeaning) → slice_get all k ≡ Some m → changes k ≡ false → (cell : List Slot) →
    m.fits cell ≡ true → m.rewritten cell ≡ cell

module _ (g : Grid) (starts : ℕ → Bool) (step : ℕ) (all : List CellMeaning) (changes : ℕ → Bool)
    (alone : AreAlone starts step all changes) where
  -- the cell is changed by the one with that index of a place that is done
  abbrev pub covered : (ℕ → Bool) → ℕ → ℕ → Bool
  covered done k n = (changes k && covers starts step k n) && done (n - k * step)

  -- or of one that is done now, as far as its cells before an index
  abbrev pub grouped : (ℕ → Bool) → (ℕ → Bool) → ℕ → ℕ → ℕ → Bool
  grouped done now i k n = (changes k && covers starts step k n) &&
      (done (n - k * step) || (nat_lt k i && now (n - k * step)))

  -- two indices of a cell leave each other alone
  pair : (j i n : ℕ) → j < i → i < length all → covers starts step j n ≡ true → covers starts step i n ≡ true →
      LeaveAlone all changes j i
  pair j i n less low here there =
      let first = covers-parts starts step j n here in
      let second = covers-parts starts step i n there in
      let distance : ℕ = i - j in
      let whole : j + distance ≡ i = omega (arith, less) in
      let split : (j + distance) * step ≡ j * step + distance * step = add-mul j distance step in
      let parts : i * step ≡ j * step + distance * step = ap (λ (k : ℕ). k * step) (sym whole) ∙ split in
      let place : n - i * step + distance * step ≡ n - j * step = omega (arith, parts, second.0) in
      subst (LeaveAlone all changes j) whole
      (alone.at (n - i * step) distance j (omega (arith, less)) (omega (arith, less, low)) second.1 (ap starts place
      ∙ first.1))

  pub keeps_pair : (j i n : ℕ) → j < length all → i < length all → covers starts step j n ≡ true →
      covers starts step i n ≡ true → j ≢ i →
      changes j ≡ true → KeepsOf all j i
  keeps_pair j i n low high here there other does = elim (cases_lt j i) [
    | inl less ↦ (pair j i n less high here there).first does
    | inr more ↦ (pair i j n (omega (arith, more, other)) low there here).second does
  ]

  -- a cell is changed by one index at most
  not_both : (j i n : ℕ) → j < length all → i < length all → covers starts step j n ≡ true → covers starts step i n
      ≡ true → j ≢ i →
      changes i ≡ true → changes j ≡ false
  not_both j i n low high here there other does = elim (cases_lt j i) [
    | inl less ↦ elim (cases_Bool (changes j)) [
      | inl on ↦ let no : true ≡ false = sym does ∙ (pair j i n less high here there).one on in absurd (cc)
      | inr off ↦ off
    ]
    | inr more ↦ (pair i j n (omega (arith, more, other)) low there here).one does
  ]

  one_index : (j i n : ℕ) → j < length all → i < length all → (changes i && covers starts step i n) ≡ true → j ≢ i →
      (changes j && covers starts step j n) ≡ false
  one_index j i n low high here other = elim (cases_Bool (covers starts step j n)) [
    | inl there ↦
        let both = and_parts (changes i) (covers starts step i n) here in
        ap (λ (b : Bool). b && covers starts step j n) (not_both j i n low high there both.1 other both.0)
    | inr not_there ↦ ap (λ (b : Bool). changes j && b) not_there ∙ and-false (changes j)
  ]

  -- what is done ------------------------------------------------------------------------------------------------------

  abbrev pub cell_done : (ℕ → Bool) → ℕ → List Slot
  cell_done done n = written_by (covered done) 0 all n (cell_at g n)

  abbrev pub cell_now : (ℕ → Bool) → (ℕ → Bool) → ℕ → ℕ → List Slot
  cell_now done now i n = written_by (grouped done now i) 0 all n (cell_at g n)

  -- places are done, and all cells of the other ones are as they were
  abbrev pub after : (ℕ → Bool) → Rewritten
  after done = written_as g (cell_done done)

  -- places are done, and of others the cells before an index
  abbrev pub during : (ℕ → Bool) → (ℕ → Bool) → ℕ → Rewritten
  during done now i = written_as g (cell_now done now i)

  same_done : (first second : ℕ → Bool) → ((e : ℕ) → e < length g.cells → starts e ≡ true → first e ≡ second e) →
      (k n : ℕ) → n < length g.cells →
      covered first k n ≡ covered second k n
  same_done first second same k n low = elim (cases_Bool (covers starts step k n)) [
    | inl here ↦
        let parts = covers-parts starts step k n here in
        ap (λ (b : Bool). (changes k && covers starts step k n) && b) (same (n - k * step) (omega (arith, low)) parts.1)
    | inr not_here ↦ rw (not_here, and-false) refl
  ]

  pub after-agree : (first second : ℕ → Bool) → ((e : ℕ) → e < length g.cells → starts e ≡ true → first e ≡ second e) →
      after first ≡ after second
  after-agree first second same =
      as-agree g (cell_done first) (cell_done second)
      (λ n low. by-agree (covered first) (covered second) 0 all n (cell_at g n)
      (λ k least most. same_done first second same k n low))

  pub after-none : (done : ℕ → Bool) → ((e : ℕ) → e < length g.cells → starts e ≡ true → done e ≡ false) →
      (let r : Rewritten = record { grid = g; changed = false } in r) ≡ after done
  after-none done none =
      as-still g
      ∙ as-agree g (cell_at g) (cell_done done)
      (λ n low. sym (by-none (covered done) 0 all n (cell_at g n)
      (λ k least most. same_done done (λ e. false) none k n low ∙ and-false (changes k && covers starts step k n))))

  -- a group begins and ends
  nothing_now : (done now : ℕ → Bool) (k n : ℕ) → grouped done now 0 k n ≡ covered done k n
  nothing_now done now k n =
      let high : 0 ≤ k = omega arith in
      rw (le-ltb k 0 high, or-false) refl

  pub during-start : (done now : ℕ → Bool) → after done ≡ during done now 0
  during-start done now =
      as-agree g (cell_done done) (cell_now done now 0)
      (λ n low. by-agree (covered done) (grouped done now 0) 0 all n (cell_at g n)
      (λ k least most. sym (nothing_now done now k n)))

  all_now : (done now more : ℕ → Bool) → ((e : ℕ) → e < length g.cells → starts e ≡ true → more e ≡ (done e || now e)) →
      (k n : ℕ) → n < length g.cells → k < length all →
      grouped done now (length all) k n ≡ covered more k n
  all_now done now more e k n low most =
      ap (λ (b : Bool). (changes k && covers starts step k n) && (done (n - k * step) || (b && now (n - k * step))))
      (lt-ltb k (length all) most)
      ∙ same_done (λ x. done x || now x) more (λ x small on. sym (e x small on)) k n low

  pub during-end : (done now more : ℕ → Bool) → ((e : ℕ) → e < length g.cells → starts e ≡ true →
      more e ≡ (done e || now e)) →
      during done now (length all) ≡ after more
  during-end done now more e =
      as-agree g (cell_now done now (length all)) (cell_done more)
      (λ n low. by-agree (grouped done now (length all)) (covered more) 0 all n (cell_at g n)
      (λ k least most. all_now done now more e k n low (omega (arith, most))))

  -- the cells with the next index -------------------------------------------------------------------------------------

  -- they are those of the group's places
  abbrev pub next_cells : (ℕ → Bool) → ℕ → ℕ → Bool
  next_cells now i n = (changes i && covers starts step i n) && now (n - i * step)

  -- other indices are done as before
  other_index : (done now : ℕ → Bool) (i j n : ℕ) → j ≢ i → grouped done now (i + 1) j n ≡ grouped done now i j n
  other_index done now i j n other =
      ap (λ (b : Bool). (changes j && covers starts step j n) && (done (n - j * step) || (b && now (n - j * step))))
      (lt_next j i other)

  -- nothing of such a cell is done, and then its index is
  none_before : (done now : ℕ → Bool) → ((e : ℕ) → now e ≡ true → done e ≡ false) → (i n j : ℕ) → i < length all →
      j < length all →
      next_cells now i n ≡ true → grouped done now i j n ≡ false
  none_before done now fresh i n j low high here =
      let both = and_parts (changes i && covers starts step i n) (now (n - i * step)) here in
      elim (cases_eq j i) [
        | inl same ↦
            let least : i ≤ i = omega arith in
            rw (same, fresh (n - i * step) both.1, le-ltb i i least) (and-false (changes i && covers starts step i n))
        | inr other ↦ rw (one_index j i n high low both.0 other) refl
      ]

  now_done : (done now : ℕ → Bool) (i n : ℕ) → next_cells now i n ≡ true → grouped done now (i + 1) i n ≡ true
  now_done done now i n here =
      let both = and_parts (changes i && covers starts step i n) (now (n - i * step)) here in
      let less : i < i + 1 = omega arith in
      rw (both.0, both.1, lt-ltb i (i + 1) less) (or-true (done (n - i * step)))

  not_next : (done now : ℕ → Bool) (i n j : ℕ) → next_cells now i n ≡ false →
      grouped done now (i + 1) j n ≡ grouped done now i j n
  not_next done now i n j off = elim (cases_eq j i) [
    | inl same ↦
        let least : i ≤ i = omega arith in
        let less : i < i + 1 = omega arith in
        rw (same, le-ltb i i least, lt-ltb i (i + 1) less) (nothing_more (changes i && covers starts step i n)
        (done (n - i * step)) (now (n - i * step)) off)
    | inr other ↦ other_index done now i j n other
  ] where
    nothing_more : (a b c : Bool) → (a && c) ≡ false → (a && (b || c)) ≡ (a && (b || false))
    nothing_more true b c e = ap (λ (d : Bool). b || d) e
    nothing_more false b c e = refl

  pub next_step : (done now : ℕ → Bool) → ((e : ℕ) → now e ≡ true → done e ≡ false) → (i : ℕ) (m : CellMeaning) →
      i < length all →
      slice_get all i ≡ Some m → (chosen : ℕ → Bool) → (n : ℕ) → chosen n ≡ next_cells now i n →
      IsStep g (cell_now done now i) (cell_now done now (i + 1)) m.rewritten chosen n
  next_step done now fresh i m low is chosen n e =
      record {
        same = λ here.
            by-none (grouped done now i) 0 all n (cell_at g n)
            (λ j least most. none_before done now fresh i n j low (omega (arith, most)) (sym e ∙ here));
        written = λ here.
            let none : 0 + i ≡ i = omega arith in
            by-one (grouped done now (i + 1)) 0 all n (cell_at g n) i m is
            (ap (λ (k : ℕ). grouped done now (i + 1) k n) none ∙ now_done done now i n (sym e ∙ here))
            (λ j least most. other_index done now i j n (λ same. absurd (omega (arith, same, most)))
            ∙ none_before done now fresh i n j low (omega (arith, most, low)) (sym e ∙ here));
        left = λ off.
            by-agree (grouped done now (i + 1)) (grouped done now i) 0 all n (cell_at g n)
            (λ j least most. not_next done now i n j (sym e ∙ off));
      }

  -- a cell that changes nothing has no turn
  pub idle_step : (done now : ℕ → Bool) (i : ℕ) → changes i ≡ false → during done now i ≡ during done now (i + 1)
  idle_step done now i idle =
      as-agree g (cell_now done now i) (cell_now done now (i + 1))
      (λ n low. by-agree (grouped done now i) (grouped done now (i + 1)) 0 all n (cell_at g n)
      (λ j least most. sym (not_next done now i n j (rw idle refl))))
