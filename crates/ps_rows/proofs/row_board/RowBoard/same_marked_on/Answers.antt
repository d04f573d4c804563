use Rattle.std.proofs.Common.{◌≡◌, ◌∙◌, ◌<◌, ◌≤◌, ◌+◌, ◌*◌, ℕ, inl, inr, true, Some, List, Bool, length, refl, sym, ap, subst, arith}
use Rattle.std.specs.Prelude.{slice_get}
use Rattle.std.proofs.lemmas.Bool.{cases_eq, cases_lt, false≢true}
use Rattle.std.proofs.lemmas.Option.{slice_get_within}
use Rattle.ps_board.specs.ColumnSets.{column_at}
use Rattle.ps_rows.specs.BlankPlanes.{AreBlank}
use Rattle.ps_rows.specs.Sameness.{IsSamePlaneOn}
use Rattle.ps_rows.proofs.Alike.{other_whole}
use Rattle.ps_rows.proofs.MemberRanges.{listed_member, member_listed}
use Rattle.ps_rows.proofs.Passed.{objects_within}
use Rattle.ps_rows.proofs.row_board.RowBoard.same_marked_on.Goals as goal

-- blank planes have the same cells
blank_on : (width height first end object : ℕ) (rows : List Bool) (here there : List (List Bool)) →
    AreBlank height first end here → AreBlank height first end there → first ≤ object → object < end →
    IsSamePlaneOn width height rows here there object
blank_on width height first end object rows here there mine theirs low high row under on x across =
    ap (λ (w : List Bool). column_at w x) (mine object row low high under ∙ sym (theirs object row low high under))

pub next_marked-object-requires : goal.next_marked-object-requires
next_marked-object-requires g c =
    let b = c.args.self.now in
    let o = c.args.other.now in
    rw c.count-objects.ensures.value (record {
      many = c.requires.many;
      order = omega arith;
      height = c.requires.height;
      here = rw b.planes.words.ok.0 (objects_within b.members.table.items b.layers b.planes.height b.planes.words.len
          b.planes.words.items b.planes.words.ok.0 b.whole);
      there = rw o.planes.words.ok.0
          (objects_within b.members.table.items b.layers b.planes.height o.planes.words.len o.planes.words.items
          o.planes.words.ok.0
          (other_whole b.members.table.items o.members.table.items b.layers o.layers b.planes.height o.planes.height
          o.planes.words.len c.requires.table c.requires.layers c.requires.height o.whole));
    })

pub next_marked-object-requires-in-loop-object : goal.next_marked-object-requires-in-loop-object
next_marked-object-requires-in-loop-object g c =
    let b = c.args.self.now in
    let o = c.args.other.now in
    record {
      many = rw c.count-objects.ensures.value c.requires.many;
      order = omega (arith, c.loop-object-test.true);
      height = c.requires.height;
      here = rw (c.count-objects.ensures.value, b.planes.words.ok.0) (objects_within b.members.table.items b.layers
          b.planes.height b.planes.words.len b.planes.words.items b.planes.words.ok.0 b.whole);
      there = rw (c.count-objects.ensures.value, o.planes.words.ok.0)
          (objects_within b.members.table.items b.layers b.planes.height o.planes.words.len o.planes.words.items
          o.planes.words.ok.0
          (other_whole b.members.table.items o.members.table.items b.layers o.layers b.planes.height o.planes.height
          o.planes.words.len c.requires.table c.requires.layers c.requires.height o.whole));
    }

pub same_object_on-requires-clause-object : goal.same_object_on-requires-clause-object
same_object_on-requires-clause-object g c = omega (arith, c.loop-object-test.true, c.count-objects.ensures.value)

pub loop-object-init : goal.loop-object-init
loop-object-init g c =
    let b = c.args.self.now in
    record {
      few = c.next_marked-object.ensures.few;
      same = λ object layer below on own.
          blank_on b.width b.planes.height 0 c.next_marked-object.result object c.args.rows b.planes.words.items
          c.args.other.now.planes.words.items c.next_marked-object.ensures.here c.next_marked-object.ensures.there
          (omega arith) below;
    }

pub loop-object-preserved : goal.loop-object-preserved
loop-object-preserved g c =
    let b = c.args.self.now in
    let object : ℕ = c.loop-object.object in
    record {
      few = c.next_marked-object-in-loop-object.ensures.few;
      same = λ each layer below on own.
          elim (cases_lt each object) [
            | inl before ↦ c.loop-object.invariant.same each layer before on own
            | inr from ↦ elim (cases_eq each object) [
              | inl e ↦
                  rw e (c.same_object_on.ensures.same c.if-not-same_object_on.false layer on (rw (sym e) own))
              | inr n ↦
                  blank_on b.width b.planes.height (object + 1) c.next_marked-object-in-loop-object.result each c.args.rows
                  b.planes.words.items c.args.other.now.planes.words.items c.next_marked-object-in-loop-object.ensures.here
                  c.next_marked-object-in-loop-object.ensures.there (omega (arith, from, n)) below
            ]
          ];
    }

pub returns-then-not-same_object_on-clause-same : goal.returns-then-not-same_object_on-clause-same
returns-then-not-same_object_on-clause-same g c = λ told. absurd (false≢true told)

pub returns-then-not-same_object_on-clause-other : goal.returns-then-not-same_object_on-clause-other
returns-then-not-same_object_on-clause-other g c = λ same.
    let b = c.args.self.now in
    sym c.if-not-same_object_on.true ∙ c.same_object_on.ensures.other
    (λ layer on own. same layer on c.loop-object.object
    (member_listed b.members.table.items layer c.loop-object.object own))

pub returns-clause-same : goal.returns-clause-same
returns-clause-same g c = λ told layer on object listed.
    let b = c.args.self.now in
    let own : slice_get b.members.table.items object ≡ Some layer =
    listed_member b.members.table.items layer object listed in
    let within : object < length b.members.table.items = slice_get_within b.members.table.items object layer own in
    c.loop-object.invariant.same object layer
    (omega (arith, within, c.loop-object-test.false, c.count-objects.ensures.value)) on own

pub returns-clause-other : goal.returns-clause-other
returns-clause-other g c = λ same. refl
