use Rattle.std.proofs.Common.{◌≡◌, ◌∙◌, ℕ, ◌<◌, inl, inr, Bool, List, [], length, refl, sym, ap, arith}
use Rattle.std.proofs.lemmas.Bool.{cases_eq, false≢true}
use Rattle.std.proofs.lemmas.List.{get_or-set_other, get_or-set_same, get_or_default, length-set}
use Rattle.ps_board.specs.ColumnSets.{both_columns, column_at, columns_below}
use Rattle.ps_board.proofs.ColumnLaws.{none_in}
use Rattle.ps_board.proofs.Taken.{was_in}
use Rattle.ps_screen.proofs.PlainRows.{one_of_both, out_of_both, within_width}
use Rattle.ps_screen.proofs.Taken.{first_gone, first_was_in, not_left}
use Rattle.ps_screen.proofs.rows.patch_rows.Goals as goal

pub loop-row-init : goal.loop-row-init
loop-row-init g c =
    let before = g.B.Board.grid c.args.shown.now in
    let after = g.B.Board.grid c.args.board.now in
    let low = c.size-height.ensures.shape.rows in
    let made : c.both-left.result ≡ both_columns c.args.rows (columns_below after.height) =
    c.both-left.ensures ∙ ap (λ (set : List Bool). both_columns c.args.rows set) (c.below.ensures
    ∙ ap columns_below c.size-height.ensures.height) in
    record {
      long = c.requires.texts.long ∙ c.requires.height;
      within = λ row small has. within_width c.args.rows after.height row small
          (ap (λ (set : List Bool). column_at set row) (sym made) ∙ has);
      wanted = λ row small has. one_of_both c.args.rows (columns_below after.height) row small
          (ap (λ (set : List Bool). column_at set row) (sym made) ∙ has);
      drawn = λ row under none on.
          absurd (false≢true (sym (out_of_both c.args.rows after.height row (omega (arith, under, low)) under
          (ap (λ (set : List Bool). column_at set row) (sym made) ∙ none)) ∙ on));
      kept = λ row under off. c.requires.texts.each row (rw c.requires.height under);
      left = λ row under has. c.requires.texts.each row under;
    }

pub bounds-texts-row : goal.bounds-texts-row
bounds-texts-row g c =
    let own = first_was_in c.loop-row.left c.take_first.new.self c.in-Some.row c.in-Some.ensures.some
    c.in-Some.ensures.within in
    let under = c.loop-row.invariant.within c.in-Some.row c.in-Some.ensures.within own in
    omega (arith, under, c.loop-row.invariant.long)

pub patch_row-requires-clause-row : goal.patch_row-requires-clause-row
patch_row-requires-clause-row g c =
    let own = first_was_in c.loop-row.left c.take_first.new.self c.in-Some.row c.in-Some.ensures.some
    c.in-Some.ensures.within in
    c.loop-row.invariant.within c.in-Some.row c.in-Some.ensures.within own

pub patch_row-requires-clause-text : goal.patch_row-requires-clause-text
patch_row-requires-clause-text g c =
    let row : ℕ = c.in-Some.row in
    let own = first_was_in c.loop-row.left c.take_first.new.self row c.in-Some.ensures.some c.in-Some.ensures.within in
    let under = c.loop-row.invariant.within row c.in-Some.ensures.within own in
    let inside : row < length c.loop-row.texts = omega (arith, under, c.loop-row.invariant.long) in
    get_or_default c.loop-row.texts row c.index-texts-row.result [] inside
    ∙ c.loop-row.invariant.left row (rw c.requires.height under) own

pub loop-row-preserved : goal.loop-row-preserved
loop-row-preserved g c =
    let first : ℕ = c.in-Some.row in
    let texts : List (List ℕ) = c.loop-row.texts in
    let own = first_was_in c.loop-row.left c.take_first.new.self first c.in-Some.ensures.some c.in-Some.ensures.within
    in
    let under = c.loop-row.invariant.within first c.in-Some.ensures.within own in
    let inside : first < length texts = omega (arith, under, c.loop-row.invariant.long) in
    let low = c.size-height.ensures.shape.rows in
    record {
      long = length-set texts first c.patch_row.new.text ∙ c.loop-row.invariant.long;
      within = λ row small has. c.loop-row.invariant.within row small
          (was_in c.loop-row.left c.take_first.new.self first row c.in-Some.ensures.some small has);
      wanted = λ row small has. c.loop-row.invariant.wanted row small
          (was_in c.loop-row.left c.take_first.new.self first row c.in-Some.ensures.some small has);
      drawn = λ row below none on. elim (cases_eq row first) [
        | inl e ↦ rw e (get_or-set_same texts first c.patch_row.new.text [] inside ∙ c.in_ok-patch_row.ensures)
        | inr apart ↦ elim (not_left c.loop-row.left c.take_first.new.self first row c.in-Some.ensures.some
            (omega (arith, below, low)) none) [
              | inl e ↦ absurd (apart e)
              | inr gone ↦ get_or-set_other texts first row c.patch_row.new.text [] apart
                  ∙ c.loop-row.invariant.drawn row below gone on
            ]
      ];
      kept = λ row below off. elim (cases_eq row first) [
        | inl e ↦ absurd (false≢true (sym off ∙ ap (column_at c.args.rows) e
            ∙ c.loop-row.invariant.wanted first c.in-Some.ensures.within own))
        | inr apart ↦ get_or-set_other texts first row c.patch_row.new.text [] apart
            ∙ c.loop-row.invariant.kept row below off
      ];
      left = λ row below has. elim (cases_eq row first) [
        | inl e ↦ absurd (false≢true (sym (first_gone c.loop-row.left c.take_first.new.self first
            c.in-Some.ensures.some c.in-Some.ensures.within) ∙ ap (column_at c.take_first.new.self) (sym e) ∙ has))
        | inr apart ↦
            get_or-set_other texts first row c.patch_row.new.text [] apart
            ∙ c.loop-row.invariant.left row below
            (was_in c.loop-row.left c.take_first.new.self first row c.in-Some.ensures.some
            (omega (arith, below, low, c.requires.height)) has)
      ];
    }

pub returns : goal.returns
returns g c =
    record {
      long = c.loop-row.invariant.long;
      drawn = λ row under. c.loop-row.invariant.drawn row under
          (none_in c.loop-row.left row (c.in_default.ensures.none refl)
          (omega (arith, under, c.size-height.ensures.shape.rows)));
      kept = c.loop-row.invariant.kept;
    }
