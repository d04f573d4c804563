use Rattle.std.proofs.Common.{◌≡◌, ◌∙◌, ℕ, ◌+◌, ◌<◌, ◌&&◌, true, false, Bool, List, inl, inr, sym, ap}
use Rattle.std.proofs.Math.Bool.{and-false}
use Rattle.std.proofs.lemmas.Bool.{cases_lt, false≢true}
use Rattle.std.proofs.lemmas.List.{get_or-set_other, get_or-set_same}
use Rattle.ps_model.specs.declared.limits.TheConstants.{SIDE_LIMIT}
use Rattle.ps_board.specs.ColumnSets.{both_columns, column_at, no_columns, with_column}
use Rattle.ps_board.proofs.ColumnLaws.{column_at-beyond, column_at-where, columns-agree}
use Rattle.ps_screen.proofs.Groups.{group_of, has_own, in_group}
use Rattle.ps_screen.proofs.patching.put_alike.Goals as goal

none_has : (x : ℕ) → column_at no_columns x ≡ true → ⊥
none_has x has =
    let none : column_at no_columns x ≡ false =
    elim (cases_lt x SIDE_LIMIT) [
      | inl low ↦ column_at-where (λ (y : ℕ). false) x low
      | inr high ↦ column_at-beyond (λ (y : ℕ). false) x high
    ] in
    false≢true (sym none ∙ has)

-- of a set and none nothing is in both
both_none : (set : List Bool) → both_columns set no_columns ≡ no_columns
both_none set = columns-agree (λ x. column_at set x && column_at no_columns x) (λ x. false)
    (λ x low. ap (λ (b : Bool). column_at set x && b) (column_at-where (λ y. false) x low) ∙ and-false (column_at set x))

pub returns-then-has_few-clause-written : goal.returns-then-has_few-clause-written
returns-then-has_few-clause-written g c =
    let column : ℕ = c.args.column in
    let made : c.with.result ≡ group_of c.args.left no_columns column =
    c.with.ensures ∙ ap (λ (set : List Bool). with_column set column true)
    (c.none.ensures ∙ sym (both_none c.args.left)) in
    let own : column_at c.with.result column ≡ true =
    ap (λ (set : List Bool). column_at set column) made ∙ has_own c.args.left no_columns column c.requires.small in
    record {
      others = no_columns;
      alike = λ x under has. absurd (none_has x has);
      group = c.with.result;
      is = made;
      behind = c.without.ensures;
      there = λ x low has. elim (in_group c.args.left no_columns column x low
          (ap (λ (set : List Bool). column_at set x) (sym made) ∙ has)) [
            | inl e ↦ rw (c.put.ensures, e)
                (get_or-set_same c.args.text.now (c.args.start + column) c.args.byte 0 c.requires.own)
            | inr both ↦ absurd (none_has x both.1)
          ];
      elsewhere = λ at out. rw c.put.ensures
          (get_or-set_other c.args.text.now (c.args.start + column) at c.args.byte 0
          (out column c.requires.small own));
    }

pub returns-clause-written : goal.returns-clause-written
returns-clause-written g c =
    record {
      others = c.alike.result;
      alike = c.alike.ensures.alike;
      group = c.with-group.result;
      is = c.with-group.ensures ∙ ap (λ (set : List Bool). with_column set c.args.column true) c.both.ensures;
      behind = c.without-2.ensures;
      there = c.put_columns.ensures.there;
      elsewhere = c.put_columns.ensures.elsewhere;
    }

pub put_columns-requires : goal.put_columns-requires
put_columns-requires g c = λ x low has.
    let column : ℕ = c.args.column in
    let made : c.with-group.result ≡ group_of c.args.left c.alike.result column =
    c.with-group.ensures ∙ ap (λ (set : List Bool). with_column set column true) c.both.ensures in
    elim (in_group c.args.left c.alike.result column x low (ap (λ (set : List Bool). column_at set x) (sym made)
    ∙ has)) [
      | inl e ↦ rw e c.requires.own
      | inr both ↦ c.requires.others x low both.0
    ]
