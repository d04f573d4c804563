-- One room of several changed.
use Rattle.std.proofs.Common.{◌≡◌, ◌≢◌, ◌∙◌, ℕ, suc, zero, ◌≤◌, inl, inr, Option, Some, None, List, [], ◌∷◌, length}
use Rattle.std.proofs.Common.{refl, sym, ap, arith}
use Rattle.std.specs.Prelude.{slice_get, slice_set}
use Rattle.std.proofs.lemmas.Bool.{cases_eq, cases_lt}
use Rattle.std.proofs.lemmas.List.{length-set}
use Rattle.std.proofs.lemmas.Option.{same_Some}
use Rattle.ps_model.specs.board.Grid.{Grid}
use Rattle.ps_model.specs.board.Attempts.{all_fit}
use Rattle.ps_match.specs.InRoom.{sides_of}
use Rattle.ps_program.specs.declared.rows.Axis.{Axis}
use Rattle.ps_program.specs.declared.rows.Axis.TheVariants.{Down, Right}
use Rattle.ps_program.specs.declared.rows.CompiledRow.{CompiledRow}
use Rattle.ps_places.specs.Scratch.{Scratch}
use Rattle.ps_places.specs.RowPlaces.{all_places, place_at, place_fits, places_behind}
use Rattle.ps_places.specs.Lines.{line_count}
use Rattle.ps_places.specs.Ways.{from_first}
use Rattle.ps_places.specs.Starts.{HasLinesOf, HaveSameStarts}
use Rattle.ps_engine.specs.Choices.{behind, behind_from, choices_of, chosen}
use Rattle.ps_engine.specs.Choosing.{AreLeft, ArePlaced, AreStarted, FitFrom, HaveLinesOf, HaveStartsOf, IsChosenOf}
use Rattle.ps_engine.specs.Choosing.{IsPlaced, LacksPlace, rows_meaning}
use Rattle.ps_engine.proofs.Choosing.{goes_on, same_places}
use Rattle.ps_engine.proofs.Rewriting.{same_height}

module _ {X : Type 0} where
  pub get_same : (xs : List X) (n : ℕ) (x y : X) → slice_get xs n ≡ Some x → slice_get (slice_set xs n y) n ≡ Some y
  get_same [] n x y e = absurd (cc)
  get_same (z ∷ xs) zero x y e = refl
  get_same (z ∷ xs) (suc n) x y e = get_same xs n x y e

  pub get_other : (xs : List X) (n k : ℕ) (y : X) → k ≢ n → slice_get (slice_set xs n y) k ≡ slice_get xs k
  get_other [] n k y other = refl
  get_other (z ∷ xs) zero zero y other = absurd (other refl)
  get_other (z ∷ xs) zero (suc k) y other = refl
  get_other (z ∷ xs) (suc n) zero y other = refl
  get_other (z ∷ xs) (suc n) (suc k) y other = get_other xs n k y (λ e. other (ap suc e))

pub starts_as_they_are : (scratch : List Scratch) → HaveStartsOf scratch scratch
starts_as_they_are scratch = record {
  long = refl;
  each = λ k before after was now. let e : after ≡ before = same_Some _ _ (sym now ∙ was) in
      rw e (record { lines = refl; starts = refl });
}

module _ (old scratch : List Scratch) (n : ℕ) (before after : Scratch) where
  pub starts_more : HaveStartsOf old scratch → slice_get scratch n ≡ Some before → HaveSameStarts before after →
      HaveStartsOf old (slice_set scratch n after)
  starts_more so there same = record { long = length-set scratch n after ∙ so.long; each = at } where
    at : (k : ℕ) (first last : Scratch) → slice_get old k ≡ Some first →
        slice_get (slice_set scratch n after) k ≡ Some last → HaveSameStarts first last
    at k first last was now = elim (cases_eq k n) [
      | inl here ↦
          let e : last ≡ after = same_Some _ _ (sym now ∙ ap (slice_get (slice_set scratch n after)) here
          ∙ get_same scratch n before after there) in
          let kept = so.each k first before was (ap (slice_get scratch) here ∙ there) in
          rw e (record { lines = same.lines ∙ kept.lines; starts = same.starts ∙ kept.starts })
      | inr other ↦ so.each k first last was (sym (get_other scratch n k after other) ∙ now)
    ]

  pub left_more : (m : ℕ) → m ≡ suc n → AreLeft old scratch n → AreLeft old (slice_set scratch n after) m
  left_more m next left k low = get_other scratch n k after (λ e. absurd (omega (arith, e, next, low)))
      ∙ left k (omega (arith, next, low))

pub left_as_they_are : (scratch : List Scratch) (n : ℕ) → AreLeft scratch scratch n
left_as_they_are scratch n k low = refl

pub none_there : (old new : List Scratch) (k : ℕ) (row_scratch : Scratch) → length new ≡ length old → slice_get new k ≡ Some row_scratch →
    slice_get old k ≡ None → ⊥
none_there [] [] k row_scratch long there was = absurd (cc)
none_there [] (y ∷ new) k row_scratch long there was = absurd (omega arith)
none_there (x ∷ old) [] k row_scratch long there was = absurd (cc)
none_there (x ∷ old) (y ∷ new) zero row_scratch long there was = absurd (cc)
none_there (x ∷ old) (y ∷ new) (suc k) row_scratch long there was = none_there old new k row_scratch (omega arith) there was

pub starts_on : (a b c : List Scratch) → HaveStartsOf a b → HaveStartsOf b c → HaveStartsOf a c
starts_on a b c first then = record { long = then.long ∙ first.long; each = each } where
  each : (k : ℕ) (x z : Scratch) → slice_get a k ≡ Some x → slice_get c k ≡ Some z → HaveSameStarts x z
  each k x z was now = at (slice_get b k) refl where
    at : (o : Option Scratch) → slice_get b k ≡ o → HaveSameStarts x z
    at (Some y) mid =
        let one = first.each k x y was mid in
        let two = then.each k y z mid now in
        record { lines = two.lines ∙ one.lines; starts = two.starts ∙ one.starts }
    at None mid = absurd (none_there b c k z then.long now mid)

module _ (g : Grid) (table : Option (List ℕ)) (rows : List CompiledRow) where
  pub started_more : (scratch : List Scratch) (n m : ℕ) (row : CompiledRow) (before after : Scratch) → m ≡ suc n →
      slice_get rows n ≡ Some row → slice_get scratch n ≡ Some before →
      HaveSameStarts before after → IsChosenOf g table row (all_places g.height row before) after →
      AreStarted g table rows scratch n → AreStarted g table rows (slice_set scratch n after) m
  started_more scratch n m row before after next is there same chosen so k r o low own here = elim (cases_eq k n) [
    | inl e ↦
        let d : r ≡ row = same_Some _ _ (sym own ∙ ap (slice_get rows) e ∙ is) in
        let f : o ≡ after = same_Some _ _ (sym here ∙ ap (slice_get (slice_set scratch n after)) e
        ∙ get_same scratch n before after there) in
        rw (d, f, same_places g table row before after same) chosen
    | inr other ↦ so k r o (omega (arith, low, next, other)) own (sym (get_other scratch n k after other) ∙ here)
  ]

  pub lines_still : (old new : List Scratch) → HaveStartsOf old new → HaveLinesOf g rows old → HaveLinesOf g rows new
  lines_still old new same lines k row row_scratch low is there = at (slice_get old k) refl where
    at : (o : Option Scratch) → slice_get old k ≡ o → HasLinesOf g row row_scratch
    at (Some before) was =
        let alike = same.each k before row_scratch was there in
        let own = lines k row before low is was in
        record { at = λ line on. own.at line (rw (← alike.lines) on) }
    at None was = absurd (none_there old new k row_scratch same.long there was)

  -- one of the first so many rows lacks a place still
  pub lacks_before : (old new : List Scratch) (n : ℕ) → HaveStartsOf old new → LacksPlace g table rows new n →
      LacksPlace g table rows old n
  lacks_before old new n same lack = at (slice_get old lack.number) refl where
    at : (o : Option Scratch) → slice_get old lack.number ≡ o → LacksPlace g table rows old n
    at (Some before) was =
        let alike : all_places g.height lack.row lack.row_scratch ≡ all_places g.height lack.row before =
        same_places g table lack.row before lack.row_scratch (same.each lack.number before lack.row_scratch was lack.room_is) in
        record {
          number = lack.number;
          low = lack.low;
          row = lack.row;
          row_scratch = before;
          row_is = lack.row_is;
          room_is = was;
          none = ap (from_first (place_fits g table (lack.row).parts)) (sym alike) ∙ lack.none;
        }
    at None was = absurd (none_there old new lack.number lack.row_scratch same.long lack.room_is was)

  module _ (old scratch new : List Scratch) (n : ℕ) (row : CompiledRow) (before after : Scratch)
      (is : slice_get rows n ≡ Some row) (there : slice_get scratch n ≡ Some before)
      (left : AreLeft old scratch n) (so : HaveStartsOf old scratch) (same : HaveSameStarts before after)
      (again : HaveStartsOf (slice_set scratch n after) new)
      (stay : AreLeft (slice_set scratch n after) new n) where
    was_there : slice_get old n ≡ Some before
    was_there = sym (left n (omega arith)) ∙ there

    is_there : slice_get new n ≡ Some after
    is_there = stay n (omega arith) ∙ get_same scratch n before after there

    pub all_left : AreLeft old new (suc n)
    all_left k low = stay k (omega (arith, low)) ∙ left_more old scratch n before after (suc n) refl left k low

    pub all_starts : HaveStartsOf old new
    all_starts = starts_on old (slice_set scratch n after) new (starts_more old scratch n before after so there same) again

    -- the next combination, where the faster rows start again
    pub next_found : length rows ≤ length old →
        from_first (place_fits g table row.parts) (places_behind g.height row before) ≡ place_at g.height row after ∷
        places_behind g.height row after →
        AreStarted g table rows new n → FitFrom g table rows old (suc n) →
        from_first (all_fit g (rows_meaning table rows)) (behind_from n (choices_of g.height rows old)) ≡ chosen
        (choices_of g.height rows new) ∷ behind (choices_of g.height rows new)
    next_found long found started slower =
        goes_on g table n rows old new row before after long (all_starts.long) is was_there is_there found started
        all_left all_starts slower

    pub next_placed : ArePlaced g rows old → IsPlaced g row after → AreStarted g table rows new n → ArePlaced g rows new
    next_placed lines line started k r o low own here = elim (cases_lt k n) [
      | inl less ↦ (started k r o less own here).place
      | inr more ↦ elim (cases_eq k n) [
        | inl e ↦
            let d : r ≡ row = same_Some _ _ (sym own ∙ ap (slice_get rows) e ∙ is) in
            let f : o ≡ after = same_Some _ _ (sym here ∙ ap (slice_get new) e ∙ is_there) in
            rw (d, f) line
        | inr other ↦ lines k r o low own (sym (all_left k (omega (arith, more, other))) ∙ here)
      ]
    ]

-- lines of another board of the same sides
same_lines : (g h : Grid) (axis : Axis) → sides_of g ≡ sides_of h → line_count axis h ≡ line_count axis g
same_lines g h Down same = ap (λ (s : ℕ × ℕ × ℕ). s.0) (sym same)
same_lines g h Right same = sym (same_height g h same)

pub lines_there : (g h : Grid) (rows : List CompiledRow) (scratch : List Scratch) → sides_of g ≡ sides_of h →
    HaveLinesOf h rows scratch → HaveLinesOf g rows scratch
lines_there g h rows scratch same lines k row row_scratch low is there =
    let own = lines k row row_scratch low is there in
    record { at = λ line on. rw (← same_lines g h row.axis same) (own.at line on) }

pub placed_there : (g h : Grid) (rows : List CompiledRow) (scratch : List Scratch) → sides_of g ≡ sides_of h →
    ArePlaced h rows scratch → ArePlaced g rows scratch
placed_there g h rows scratch same places k row row_scratch low is there =
    let own = places k row row_scratch low is there in
    record { on_line = rw (← same_lines g h row.axis same) own.on_line; spaced = own.spaced }
