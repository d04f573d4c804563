use Rattle.std.proofs.Common.{◌≡◌, ◌∙◌, ◌+◌, ◌*◌, ℕ, inl, inr, Bool, List, refl, sym, ap, arith}
use Rattle.std.proofs.lemmas.Bool.{cases_eq, false≢true}
use Rattle.ps_board.specs.ColumnSets.{both_columns, column_at, columns_below}
use Rattle.ps_board.proofs.ColumnLaws.{none_in}
use Rattle.ps_board.proofs.Taken.{was_in}
use Rattle.ps_screen.specs.PlainFrames.{row_start}
use Rattle.ps_screen.specs.PlainRows.{IsPlainRow}
use Rattle.ps_screen.proofs.PlainFrames.{ends_stay, has_ends, row_of, row_stays, row_written}
use Rattle.ps_screen.proofs.PlainRows.{drawn_but, one_of_both, out_of_both, within_width}
use Rattle.ps_screen.proofs.Taken.{first_gone, first_was_in, not_left}
use Rattle.ps_screen.proofs.plain_frames.patch_frame.Goals as goal

pub loop-row-init : goal.loop-row-init
loop-row-init g c =
    let before = g.B.Board.grid c.args.shown.now in
    let after = g.B.Board.grid c.args.board.now in
    let low = c.size-width.ensures.shape.rows in
    let made : c.both-left.result ≡ both_columns c.args.rows (columns_below after.height) =
    c.both-left.ensures ∙ ap (λ (set : List Bool). both_columns c.args.rows set) (c.below.ensures
    ∙ ap columns_below c.size-width.ensures.height) in
    let was = row_of c.args.look.now after before c.args.text.now c.requires.width c.requires.height c.requires.text in
    record {
      ends = rw (← c.requires.width, ← c.requires.height)
          (has_ends c.args.look.now before c.args.text.now c.requires.text);
      within = λ row small has. within_width c.args.rows after.height row small
          (ap (λ (set : List Bool). column_at set row) (sym made) ∙ has);
      wanted = λ row small has. one_of_both c.args.rows (columns_below after.height) row small
          (ap (λ (set : List Bool). column_at set row) (sym made) ∙ has);
      drawn = λ row under none on.
          absurd (false≢true (sym (out_of_both c.args.rows after.height row (omega (arith, under, low)) under
          (ap (λ (set : List Bool). column_at set row) (sym made) ∙ none)) ∙ on));
      kept = λ row under off. was row under;
      left = λ row under has. was row under;
    }

pub differing-requires-clause-row : goal.differing-requires-clause-row
differing-requires-clause-row g c =
    let own = first_was_in c.loop-row.left c.take_first.new.self c.in-Some.row c.in-Some.ensures.some
    c.in-Some.ensures.within in
    c.loop-row.invariant.within c.in-Some.row c.in-Some.ensures.within own

pub patch_columns-requires-clause-row : goal.patch_columns-requires-clause-row
patch_columns-requires-clause-row g c =
    let own = first_was_in c.loop-row.left c.take_first.new.self c.in-Some.row c.in-Some.ensures.some
    c.in-Some.ensures.within in
    c.loop-row.invariant.within c.in-Some.row c.in-Some.ensures.within own

pub patch_columns-requires-clause-within : goal.patch_columns-requires-clause-within
patch_columns-requires-clause-within g c = λ x low has.
    let after = g.B.Board.grid c.args.board.now in
    let made : c.both-differing.result ≡ both_columns c.differing.result (columns_below after.width) =
    c.both-differing.ensures ∙ ap (λ (set : List Bool). both_columns c.differing.result set) (c.below-columns.ensures
    ∙ ap columns_below c.size-width.ensures.width) in
    within_width c.differing.result after.width x low (ap (λ (set : List Bool). column_at set x) (sym made) ∙ has)

pub patch_columns-requires-clause-drawn : goal.patch_columns-requires-clause-drawn
patch_columns-requires-clause-drawn g c =
    let before = g.B.Board.grid c.args.shown.now in
    let after = g.B.Board.grid c.args.board.now in
    let row : ℕ = c.in-Some.row in
    let narrow = c.size-width.ensures.shape.columns in
    let made : c.both-differing.result ≡ both_columns c.differing.result (columns_below after.width) =
    c.both-differing.ensures ∙ ap (λ (set : List Bool). both_columns c.differing.result set) (c.below-columns.ensures
    ∙ ap columns_below c.size-width.ensures.width) in
    let own = first_was_in c.loop-row.left c.take_first.new.self row c.in-Some.ensures.some c.in-Some.ensures.within in
    let under = c.loop-row.invariant.within row c.in-Some.ensures.within own in
    rw c.size-width.ensures.width
    (drawn_but c.args.look.now after before row c.both-differing.result (row_start after.width row) c.loop-row.text
    c.requires.width c.requires.height
    (λ x inside none. c.differing.ensures x inside
    (out_of_both c.differing.result after.width x (omega (arith, inside, narrow)) inside
    (ap (λ (set : List Bool). column_at set x) (sym made) ∙ none)))
    (c.loop-row.invariant.left row under own))

pub loop-row-preserved : goal.loop-row-preserved
loop-row-preserved g c =
    let before = g.B.Board.grid c.args.shown.now in
    let after = g.B.Board.grid c.args.board.now in
    let first : ℕ = c.in-Some.row in
    let text : List ℕ = c.loop-row.text in
    let drawn : List ℕ = c.patch_columns.new.text in
    let own = first_was_in c.loop-row.left c.take_first.new.self first c.in-Some.ensures.some c.in-Some.ensures.within
    in
    let under = c.loop-row.invariant.within first c.in-Some.ensures.within own in
    let low = c.size-width.ensures.shape.rows in
    let start : first * (c.size-width.result.0 + 1) ≡ row_start after.width first =
    ap (λ (n : ℕ). first * (n + 1)) c.size-width.ensures.width in
    let wrote = row_written c.args.look.now after first _ text drawn start c.patch_columns.ensures.long
    c.patch_columns.ensures.elsewhere in
    let plain : IsPlainRow c.args.look.now after first (row_start after.width first) drawn =
    rw (← start) (c.in_ok-plain.ensures.plain c.if-not-plain.false) in
    record {
      ends = ends_stay after.width after.height first text drawn under wrote c.loop-row.invariant.ends;
      within = λ row small has. c.loop-row.invariant.within row small
          (was_in c.loop-row.left c.take_first.new.self first row c.in-Some.ensures.some small has);
      wanted = λ row small has. c.loop-row.invariant.wanted row small
          (was_in c.loop-row.left c.take_first.new.self first row c.in-Some.ensures.some small has);
      drawn = λ row below none on. elim (cases_eq row first) [
        | inl e ↦ rw e plain
        | inr apart ↦ elim (not_left c.loop-row.left c.take_first.new.self first row c.in-Some.ensures.some
            (omega (arith, below, low)) none) [
              | inl e ↦ absurd (apart e)
              | inr gone ↦ row_stays c.args.look.now after after first row text drawn refl apart wrote
                  (c.loop-row.invariant.drawn row below gone on)
            ]
      ];
      kept = λ row below off. elim (cases_eq row first) [
        | inl e ↦ absurd (false≢true (sym off ∙ ap (column_at c.args.rows) e
            ∙ c.loop-row.invariant.wanted first c.in-Some.ensures.within own))
        | inr apart ↦ row_stays c.args.look.now after before first row text drawn c.requires.width apart wrote
            (c.loop-row.invariant.kept row below off)
      ];
      left = λ row below has. elim (cases_eq row first) [
        | inl e ↦ absurd (false≢true (sym (first_gone c.loop-row.left c.take_first.new.self first
            c.in-Some.ensures.some c.in-Some.ensures.within) ∙ ap (column_at c.take_first.new.self) (sym e) ∙ has))
        | inr apart ↦
            row_stays c.args.look.now after before first row text drawn c.requires.width apart wrote
            (c.loop-row.invariant.left row below
            (was_in c.loop-row.left c.take_first.new.self first row c.in-Some.ensures.some
            (omega (arith, below, low)) has))
      ];
    }

pub returns : goal.returns
returns g c = λ plain.
    record {
      long = c.loop-row.invariant.ends.long;
      drawn = λ row under. c.loop-row.invariant.drawn row under
          (none_in c.loop-row.left row (c.in_default.ensures.none refl)
          (omega (arith, under, c.size-width.ensures.shape.rows)));
      kept = c.loop-row.invariant.kept;
      end = c.loop-row.invariant.ends.end;
    }
