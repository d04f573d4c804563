use Rattle.std.proofs.Common.{◌≢◌, ◌∙◌, ℕ, ◌+◌, ◌<◌, inl, inr, List, length, refl, ap, arith}
use Rattle.std.proofs.lemmas.Bool.{cases_eq}
use Rattle.std.proofs.lemmas.List.{get_or-set_same, get_or-set_other, length-set}
use Rattle.ps_board.proofs.ColumnLaws.{none_in}
use Rattle.ps_board.proofs.Taken.{was_in}
use Rattle.ps_screen.proofs.Taken.{first_was_in, not_left}
use Rattle.ps_screen.proofs.patching.put_columns.Goals as goal

pub put-requires : goal.put-requires
put-requires g c =
    let own = first_was_in c.loop-column.left c.take_first.new.self c.in-Some.column c.in-Some.ensures.some
    c.in-Some.ensures.within in
    let low = c.requires c.in-Some.column c.in-Some.ensures.within
    (c.loop-column.invariant.within c.in-Some.column c.in-Some.ensures.within own) in
    omega (arith, low, c.loop-column.invariant.long)

pub loop-column-preserved : goal.loop-column-preserved
loop-column-preserved g c =
    let first : ℕ = c.in-Some.column in
    let place : ℕ = c.args.start + first in
    let text : List ℕ = c.loop-column.text in
    let own = first_was_in c.loop-column.left c.take_first.new.self first c.in-Some.ensures.some
    c.in-Some.ensures.within in
    let among = c.loop-column.invariant.within first c.in-Some.ensures.within own in
    let low = c.requires first c.in-Some.ensures.within among in
    let inside : place < length text = omega (arith, low, c.loop-column.invariant.long) in
    record {
      long = ap (λ (t : List ℕ). length t) c.put.ensures ∙ length-set text place c.args.byte
          ∙ c.loop-column.invariant.long;
      within = λ x small has. c.loop-column.invariant.within x small
          (was_in c.loop-column.left c.take_first.new.self first x c.in-Some.ensures.some small has);
      there = λ x small has none. elim (cases_eq x first) [
        | inl e ↦ rw (c.put.ensures, e) (get_or-set_same text place c.args.byte 0 inside)
        | inr apart ↦ elim (not_left c.loop-column.left c.take_first.new.self first x c.in-Some.ensures.some small
            none) [
              | inl e ↦ absurd (apart e)
              | inr gone ↦
                  let other : c.args.start + x ≢ place = omega (arith, apart) in
                  rw c.put.ensures (get_or-set_other text place (c.args.start + x) c.args.byte 0 other
                  ∙ c.loop-column.invariant.there x small has gone)
            ]
      ];
      elsewhere = λ at out.
          rw c.put.ensures (get_or-set_other text place at c.args.byte 0 (out first c.in-Some.ensures.within among)
          ∙ c.loop-column.invariant.elsewhere at out);
    }

pub returns-clause-there : goal.returns-clause-there
returns-clause-there g c = λ x small has. c.loop-column.invariant.there x small has
    (none_in c.loop-column.left x (c.in_default.ensures.none refl) small)
