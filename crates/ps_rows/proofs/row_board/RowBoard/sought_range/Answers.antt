use Rattle.std.proofs.Common.{◌≡◌, ◌∙◌, ◌+◌, ◌*◌, ◌≤◌, ◌||◌, inl, inr, ℕ, Bool, false, true, cond, None, Some, List, [], ◌∷◌}
use Rattle.std.proofs.Common.{length, sym, ap, arith}
use Rattle.std.specs.Prelude.{find, nat_eq, slice_range}
use Rattle.std.specs.List.{list_any}
use Rattle.std.proofs.lemmas.Bool.{cases_eq, false≢true}
use Rattle.std.proofs.lemmas.Bool.Decides.{nat_tests}
use Rattle.ps_rows.specs.Planes.{HavePlanes, has_cell}
use Rattle.ps_rows.specs.Showing.{object_shown}
use Rattle.ps_rows.proofs.MemberRanges.{one_range}
use Rattle.ps_rows.proofs.Puts.{planes_whole}
use Rattle.ps_rows.proofs.row_board.RowBoard.sought_range.Goals as goal

-- one plane
alone_whole : (height object : ℕ) (words : List (List Bool)) → (object + 1) * height ≤ length words →
    HavePlanes height words (object ∷ [])
alone_whole height object words enough plane listed = elim (cases_eq plane object) [
  | inl e ↦ rw e enough
  | inr n ↦
      let other : nat_eq plane object ≡ false = grind (arith, nat_tests, n) in
      absurd (false≢true (sym (ap (λ (b : Bool). b || false) other) ∙ listed))
]

pub returns-then-not-are_many-clause-planes : goal.returns-then-not-are_many-clause-planes
returns-then-not-are_many-clause-planes g c =
    let b = c.args.self.now in
    rw c.range_of-range.ensures.objects
    (planes_whole b.members.table.items b.layers b.planes.height b.planes.words.items c.args.layer
    (sym b.planes.words.ok.0 ∙ b.whole))

pub returns-then-not-are_many-clause-object : goal.returns-then-not-are_many-clause-object
unfolding object_shown
returns-then-not-are_many-clause-object g c =
    let b = c.args.self.now in
    ap (find (has_cell b.planes.height b.planes.words.items c.args.cell)) c.range_of-range.ensures.objects

pub returns-in_default-place_in-clause-planes : goal.returns-in_default-place_in-clause-planes
returns-in_default-place_in-clause-planes g c =
    let b = c.args.self.now in
    rw c.range_of-range.ensures.objects
    (planes_whole b.members.table.items b.layers b.planes.height b.planes.words.items c.args.layer
    (sym b.planes.words.ok.0 ∙ b.whole))

pub returns-in_default-place_in-clause-object : goal.returns-in_default-place_in-clause-object
unfolding object_shown
returns-in_default-place_in-clause-object g c =
    let b = c.args.self.now in
    ap (find (has_cell b.planes.height b.planes.words.items c.args.cell)) c.range_of-range.ensures.objects

pub returns-clause-planes : goal.returns-clause-planes
returns-clause-planes g c =
    let b = c.args.self.now in
    rw (one_range b.members.numbers.items c.in-Some-place_in.place c.in-Some.object c.in-Some-place_in.ensures.place)
    (alone_whole b.planes.height c.in-Some.object b.planes.words.items c.in-Some.ensures.plane)

pub returns-clause-object : goal.returns-clause-object
returns-clause-object g c =
    let b = c.args.self.now in
    ap (find (has_cell b.planes.height b.planes.words.items c.args.cell))
    (one_range b.members.numbers.items c.in-Some-place_in.place c.in-Some.object c.in-Some-place_in.ensures.place)
    ∙ ap (λ (has : Bool). cond has (Some c.in-Some.object) None) c.in-Some.ensures.cell
    ∙ c.in-Some.ensures.shown
