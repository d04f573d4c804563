use Rattle.std.proofs.Common.{◌≡◌, ◌∙◌, ◌<◌, ◌≤◌, ◌+◌, ◌*◌, ◌&&◌, inl, inr, ℕ, Bool, true, false, Option, None, Some, List}
use Rattle.std.proofs.Common.{length, refl, sym, ap, subst, arith}
use Rattle.std.specs.Prelude.{slice_get}
use Rattle.std.proofs.lemmas.Bool.{and_parts, cases_eq, cases_lt, false≢true, eq-eqb}
use Rattle.std.proofs.lemmas.Option.{slice_get_within}
use Rattle.ps_model.specs.board.Movement.{is_number}
use Rattle.ps_laws.proofs.common.SameThings.{is_number-true}
use Rattle.ps_rows.specs.BlankPlanes.{AreBlank}
use Rattle.ps_rows.specs.Planes.{has_cell}
use Rattle.ps_rows.specs.Showing.{AreObjectsShown, object_shown}
use Rattle.ps_rows.proofs.BlankPlanes.{blank_cell}
use Rattle.ps_rows.proofs.Passed.{next_enough, objects_within, own_order}
use Rattle.ps_rows.proofs.Rests.{object_room}
use Rattle.ps_rows.proofs.row_board.RowBoard.object_of_many.Goals as goal

module _ (table : List ℕ) (height : ℕ) (words : List (List Bool)) (cells cell layer : ℕ) (inside : cell < cells)
    (shown : AreObjectsShown table height words cells) where
  -- the plane of the layer that has the cell is that of the object that is shown
  found : (plane : ℕ) → slice_get table plane ≡ Some layer → has_cell height words cell plane ≡ true →
      Some plane ≡ object_shown table height words cell layer
  found plane own has =
      sym (is_number-true (object_shown table height words cell layer) plane
      (sym (shown cell plane layer inside own) ∙ has))

  -- where none has it, none is shown
  nowhere_of : (object : Option ℕ) → object_shown table height words cell layer ≡ object →
      ((plane : ℕ) → plane < length table → slice_get table plane ≡ Some layer →
      has_cell height words cell plane ≡ false) → None ≡ object
  nowhere_of None is none = refl
  nowhere_of (Some plane) is none =
      let own : slice_get table plane ≡ Some layer = is_number-true (slice_get table plane) layer
      (object_room table height words cell layer plane is) in
      let here : has_cell height words cell plane ≡ true = shown cell plane layer inside own
      ∙ ap (λ (o : Option ℕ). is_number o plane) is ∙ eq-eqb plane plane refl in
      absurd (false≢true (sym (none plane (slice_get_within table plane layer own) own) ∙ here))

-- an object of the layer that isn't found doesn't have the cell
other_cell : (own : Option ℕ) (layer : ℕ) (has : Bool) → own ≡ Some layer → (is_number own layer && has) ≡ false →
    has ≡ false
other_cell own layer has is none =
    let on : is_number own layer ≡ true = ap (λ (o : Option ℕ). is_number o layer) is ∙ eq-eqb layer layer refl in
    sym (ap (λ (b : Bool). b && has) on) ∙ none

pub returns-then-holds : goal.returns-then-holds
returns-then-holds g c =
    let b = c.args.self.now in
    let table = b.members.table.items in
    let words = b.planes.words in
    let plane : ℕ = c.loop-plane.plane in
    let parts = and_parts (is_number (slice_get table plane) c.args.layer)
    (has_cell b.planes.height words.items c.args.cell plane) (sym c.holds.ensures ∙ c.if-holds.true) in
    let below : plane < length table = omega (arith, c.loop-plane-test.true, c.count-objects.ensures.value) in
    let E : ℕ → Type 0 = λ n. (plane + 1) * b.planes.height ≤ n in
    record {
      shown = found table b.planes.height words.items (b.width * b.planes.height) c.args.cell c.args.layer
          c.requires.cell b.objects plane (is_number-true (slice_get table plane) c.args.layer parts.0) parts.1;
      plane = subst E words.ok.0
          (next_enough b.planes.height plane (length table) (length table) (length words.items) words.len below
          (own_order (length table))
          (objects_within table b.layers b.planes.height words.len words.items words.ok.0 b.whole) words.ok.0);
      cell = parts.1;
    }

pub next_marked-plane-requires : goal.next_marked-plane-requires
next_marked-plane-requires g c =
    let b = c.args.self.now in
    let within : c.count-objects.result * b.planes.height ≤ b.planes.words.len =
    rw (c.count-objects.ensures.value, b.planes.words.ok.0) (objects_within b.members.table.items b.layers
    b.planes.height b.planes.words.len b.planes.words.items b.planes.words.ok.0 b.whole) in
    record {
      many = rw c.count-objects.ensures.value c.requires.many;
      order = omega arith;
      height = refl;
      here = within;
      there = within;
    }

pub next_marked-plane-requires-in-loop-plane : goal.next_marked-plane-requires-in-loop-plane
next_marked-plane-requires-in-loop-plane g c =
    let b = c.args.self.now in
    let within : c.count-objects.result * b.planes.height ≤ b.planes.words.len =
    rw (c.count-objects.ensures.value, b.planes.words.ok.0) (objects_within b.members.table.items b.layers
    b.planes.height b.planes.words.len b.planes.words.items b.planes.words.ok.0 b.whole) in
    record {
      many = rw c.count-objects.ensures.value c.requires.many;
      order = omega (arith, c.loop-plane-test.true);
      height = refl;
      here = within;
      there = within;
    }

pub holds-requires : goal.holds-requires
holds-requires g c =
    let b = c.args.self.now in
    let table = b.members.table.items in
    let below : c.loop-plane.plane < length table = omega (arith, c.loop-plane-test.true, c.count-objects.ensures.value) in
    next_enough b.planes.height c.loop-plane.plane (length table) (length table) (length b.planes.words.items)
    b.planes.words.len below (own_order (length table))
    (objects_within table b.layers b.planes.height b.planes.words.len b.planes.words.items b.planes.words.ok.0 b.whole)
    b.planes.words.ok.0

pub loop-plane-init : goal.loop-plane-init
loop-plane-init g c =
    let b = c.args.self.now in
    record {
      few = c.next_marked-plane.ensures.few;
      none = λ plane below own.
          blank_cell b.planes.height 0 c.next_marked-plane.result c.args.cell plane b.planes.words.items
          b.planes.some_row (omega arith) below c.next_marked-plane.ensures.here;
    }

pub loop-plane-preserved : goal.loop-plane-preserved
loop-plane-preserved g c =
    let b = c.args.self.now in
    let plane : ℕ = c.loop-plane.plane in
    record {
      few = c.next_marked-plane-in-loop-plane.ensures.few;
      none = λ each below own.
          elim (cases_lt each plane) [
            | inl before ↦ c.loop-plane.invariant.none each before own
            | inr from ↦ elim (cases_eq each plane) [
              | inl e ↦
                  let here : slice_get b.members.table.items plane ≡ Some c.args.layer = rw (sym e) own in
                  rw e (other_cell (slice_get b.members.table.items plane) c.args.layer
                  (has_cell b.planes.height b.planes.words.items c.args.cell plane) here
                  (sym c.holds.ensures ∙ c.if-holds.false))
              | inr n ↦
                  blank_cell b.planes.height (plane + 1) c.next_marked-plane-in-loop-plane.result c.args.cell each b.planes.words.items
                  b.planes.some_row (omega (arith, from, n)) below c.next_marked-plane-in-loop-plane.ensures.here
            ]
          ];
    }

pub returns-clause-shown : goal.returns-clause-shown
returns-clause-shown g c =
    let b = c.args.self.now in
    let table = b.members.table.items in
    nowhere_of table b.planes.height b.planes.words.items (b.width * b.planes.height) c.args.cell c.args.layer
    c.requires.cell b.objects (object_shown table b.planes.height b.planes.words.items c.args.cell c.args.layer) refl
    (λ plane below own. c.loop-plane.invariant.none plane
    (omega (arith, below, c.loop-plane-test.false, c.count-objects.ensures.value)) own)
