-- Rooms that forget places before those that are chosen: what is left to apply comes to the same.
use Rattle.std.proofs.Common.{◌≡◌, ◌∙◌, ℕ, suc, zero, ◌+◌, ◌≤◌, inl, inr, true, cond, Option, Some, None, List, [], ◌∷◌}
use Rattle.std.proofs.Common.{length, map, filter, refl, sym, ap, ap₂, arith}
use Rattle.std.specs.Prelude.{slice_get, slice_set}
use Rattle.std.proofs.lemmas.Bool.{cases_eq}
use Rattle.std.proofs.lemmas.List.{length-append, length-map, length-set}
use Rattle.std.proofs.lemmas.Option.{same_Some}
use Rattle.ps_model.specs.board.Grid.{Grid}
use Rattle.ps_model.specs.board.Places.{cells_in, fits_along}
use Rattle.ps_model.specs.board.Attempts.{Rewritten, all_fit}
use Rattle.ps_model.specs.meaning.RuleMeanings.{CellMeaning}
use Rattle.ps_program.specs.declared.rows.CompiledRow.{CompiledRow}
use Rattle.ps_program.specs.Sleeping.{rows_sleep}
use Rattle.ps_places.specs.Scratch.{Scratch}
use Rattle.ps_places.specs.Forgetting.{HaveForgotten}
use Rattle.ps_places.specs.RowPlaces.{all_places, place_fits, places_behind, row_meaning}
use Rattle.ps_places.specs.Starts.{HasLinesOf}
use Rattle.ps_engine.specs.Choices.{behind, choices_of, chosen, spread}
use Rattle.ps_engine.specs.Choosing.{AreForgotten, AreLeft, ArePlaced, AreStarted, ComeToSame, HaveLinesOf, IsPlaced}
use Rattle.ps_engine.specs.Choosing.{rows_meaning}
use Rattle.ps_engine.proofs.Choosing.{cells_in-meant}
use Rattle.ps_engine.proofs.Forgetting.{AreSameFitting, same_behind, same_chosen}
use Rattle.ps_engine.proofs.ScratchChanged.{get_other, get_same, none_there}
use Rattle.ps_engine.proofs.RowsAsleep.{rows_let_sleep}
use Rattle.ps_engine.proofs.Sleeping.{sleeping_left_out}

-- one room more -------------------------------------------------------------------------------------------------------

nothing_forgotten : (height : ℕ) (row : CompiledRow) (row_scratch : Scratch) → HaveForgotten height row row_scratch row_scratch
nothing_forgotten height row row_scratch = record {
  at = refl;
  later = refl;
  line = refl;
  way = refl;
  lines = λ x on. on;
  fewer = omega arith;
  fitting = λ fits found. refl;
}

pub none_forgotten : (rows : List CompiledRow) (scratch : List Scratch) → AreForgotten rows scratch scratch
none_forgotten rows scratch = record {
  long = refl;
  each = λ k height row before after is was now.
      let e : after ≡ before = same_Some _ _ (sym now ∙ was) in
      rw e (nothing_forgotten height row before);
}

pub forgotten_more : (rows : List CompiledRow) (old scratch : List Scratch) (n : ℕ) (row : CompiledRow)
    (before after : Scratch) → AreForgotten rows old scratch → AreLeft old scratch n → slice_get rows n ≡ Some row →
    slice_get scratch n ≡ Some before → ((height : ℕ) → HaveForgotten height row before after) →
    AreForgotten rows old (slice_set scratch n after)
forgotten_more rows old scratch n row before after so left is there one = record {
  long = length-set scratch n after ∙ so.long;
  each = at;
} where
  at : (k height : ℕ) (r : CompiledRow) (first last : Scratch) → slice_get rows k ≡ Some r →
      slice_get old k ≡ Some first → slice_get (slice_set scratch n after) k ≡ Some last →
      HaveForgotten height r first last
  at k height r first last own was now = elim (cases_eq k n) [
    | inl here ↦
        let e : last ≡ after = same_Some _ _ (sym now ∙ ap (slice_get (slice_set scratch n after)) here
        ∙ get_same scratch n before after there) in
        let d : r ≡ row = same_Some _ _ (sym own ∙ ap (slice_get rows) here ∙ is) in
        let f : first ≡ before =
        same_Some _ _ (sym was ∙ ap (slice_get old) here ∙ sym (left n (omega arith)) ∙ there) in
        rw (e, d, f) (one height)
    | inr other ↦ so.each k height r first last own was (sym (get_other scratch n k after other) ∙ now)
  ]

-- lines ---------------------------------------------------------------------------------------------------------------

module _ (g : Grid) (rows : List CompiledRow) (old new : List Scratch) (so : AreForgotten rows old new) where
  pub lines_kept : HaveLinesOf g rows old → HaveLinesOf g rows new
  lines_kept lines k row row_scratch low is there = at (slice_get old k) refl where
    at : (o : Option Scratch) → slice_get old k ≡ o → HasLinesOf g row row_scratch
    at (Some before) was =
        let own = lines k row before low is was in
        let kept = so.each k 0 row before row_scratch is was there in
        record { at = λ line on. own.at line (kept.lines line on) }
    at None was = absurd (none_there old new k row_scratch so.long there was)

  pub placed_kept : ArePlaced g rows old → ArePlaced g rows new
  placed_kept places k row row_scratch low is there = at (slice_get old k) refl where
    at : (o : Option Scratch) → slice_get old k ≡ o → IsPlaced g row row_scratch
    at (Some before) was =
        let own = places k row before low is was in
        let kept = so.each k 0 row before row_scratch is was there in
        record { on_line = rw kept.line own.on_line; spaced = rw kept.way own.spaced }
    at None was = absurd (none_there old new k row_scratch so.long there was)

-- combinations --------------------------------------------------------------------------------------------------------

abbrev Each : List CompiledRow → List Scratch → List Scratch → Type 0
Each rows old new =
    (k height : ℕ) (row : CompiledRow) (before after : Scratch) → slice_get rows k ≡ Some row →
    slice_get old k ≡ Some before → slice_get new k ≡ Some after → HaveForgotten height row before after

module _ (g : Grid) (table : Option (List ℕ)) where
  same_for : (row : CompiledRow) (old new : Scratch) →
      filter (place_fits g table row.parts) (all_places g.height row new)
      ≡ filter (place_fits g table row.parts) (all_places g.height row old) →
      filter (fits_along g (cells_in (row_meaning table row))) (all_places g.height row new)
      ≡ filter (fits_along g (cells_in (row_meaning table row))) (all_places g.height row old)
  same_for row old new e =
      ap (λ (ms : List CellMeaning). filter (fits_along g ms) (all_places g.height row new))
      (cells_in-meant table row.parts)
      ∙ e
      ∙ ap (λ (ms : List CellMeaning). filter (fits_along g ms) (all_places g.height row old))
      (sym (cells_in-meant table row.parts))

  alike : (count : ℕ) (rows : List CompiledRow) (old new : List Scratch) → length rows ≤ length old →
      length new ≡ length old → Each rows old new → AreStarted g table rows old count → AreLeft old new count →
      AreSameFitting g (rows_meaning table rows) (choices_of g.height rows old) (choices_of g.height rows new)
  alike count [] old new long even each started left = tt
  alike count (row ∷ rows) [] new long even each started left = absurd (omega (arith, long))
  alike count (row ∷ rows) (o ∷ old) [] long even each started left = absurd (omega (arith, even))
  alike zero (row ∷ rows) (o ∷ old) (n ∷ new) long even each started left =
      let one = each 0 g.height row o n refl refl refl in
      let e : n ≡ o = same_Some _ _ (left 0 (omega arith)) in (
        record {
          at = one.at;
          later = one.later;
          fitting = ap (λ (row_scratch : Scratch).
              filter (fits_along g (cells_in (row_meaning table row))) (all_places g.height row row_scratch)) e;
        },
        alike zero rows old new (omega (arith, long)) (omega (arith, even))
            (λ k height r before after is was now. each (suc k) height r before after is was now)
            (λ k r row_scratch low is there. absurd (omega (arith, low))) (λ k low. left (suc k) (omega arith)),
      )
  alike (suc count) (row ∷ rows) (o ∷ old) (n ∷ new) long even each started left =
      let one = each 0 g.height row o n refl refl refl in (
        record {
          at = one.at;
          later = one.later;
          fitting = same_for row o n
              (one.fitting (place_fits g table row.parts) (started 0 row o (omega arith) refl refl).found);
        },
        alike count rows old new (omega (arith, long)) (omega (arith, even))
            (λ k height r before after is was now. each (suc k) height r before after is was now)
            (λ k r row_scratch low is there. started (suc k) r row_scratch (omega (arith, low)) is there)
            (λ k low. left (suc k) (omega (arith, low))),
      )

  module _ (rows : List CompiledRow) (old new : List Scratch) (count : ℕ) (long : length rows ≤ length old)
      (so : AreForgotten rows old new) (started : AreStarted g table rows old count)
      (left : AreLeft old new count) where
    pub same_chosen_for : chosen (choices_of g.height rows new) ≡ chosen (choices_of g.height rows old)
    same_chosen_for =
        same_chosen g (rows_meaning table rows) (choices_of g.height rows old) (choices_of g.height rows new)
        (alike count rows old new long so.long so.each started left)

    -- where the rows let each other sleep, what is left comes to the same
    pub comes_to_same : rows_sleep rows ≡ true →
        ComeToSame g (rows_meaning table rows)
        (chosen (choices_of g.height rows new) ∷ behind (choices_of g.height rows new))
        (chosen (choices_of g.height rows old) ∷ behind (choices_of g.height rows old))
    comes_to_same asleep = λ changed.
        let meant : List (List (List CellMeaning)) = rows_meaning table rows in
        let now : Rewritten = record { grid = g; changed = changed } in
        sleeping_left_out meant (rows_let_sleep table rows asleep) now
        (chosen (choices_of g.height rows new) ∷ behind (choices_of g.height rows new))
        (chosen (choices_of g.height rows old) ∷ behind (choices_of g.height rows old))
        (ap₂ (λ (c : List (List ℕ)) (cs : List (List (List ℕ))). cond (all_fit g meant c) (c ∷ cs) cs) same_chosen_for
        (same_behind g meant (choices_of g.height rows old) (choices_of g.height rows new)
        (alike count rows old new long so.long so.each started left)))

-- no more are left ----------------------------------------------------------------------------------------------------

spread_long : (places : List (List ℕ)) (rest : List (List ℕ)) (rests : List (List (List ℕ))) →
    length (spread places (rest ∷ rests)) ≡ length places + length (spread places rests)
spread_long places rest rests =
    length-append (map (λ place. place ∷ rest) places) (spread places rests)
    ∙ ap (λ (n : ℕ). n + length (spread places rests)) (length-map places (λ place. place ∷ rest))

spread_fewer : (few more : List (List ℕ)) (xs ys : List (List (List ℕ))) → length few ≤ length more →
    length xs ≤ length ys → length (spread few xs) ≤ length (spread more ys)
spread_fewer few more [] ys low less = omega arith
spread_fewer few more (x ∷ xs) [] low less = absurd (omega (arith, less))
spread_fewer few more (x ∷ xs) (y ∷ ys) low less =
    let others : length (spread few xs) ≤ length (spread more ys) =
    spread_fewer few more xs ys low (omega (arith, less)) in
    omega (arith, others, low, spread_long few x xs, spread_long more y ys)

module _ (height : ℕ) where
  fewer_by : (rows : List CompiledRow) (old new : List Scratch) → length rows ≤ length old →
      length new ≡ length old → Each rows old new →
      length (behind (choices_of height rows new)) ≤ length (behind (choices_of height rows old))
  fewer_by [] old new long even each = omega arith
  fewer_by (row ∷ rows) [] new long even each = absurd (omega (arith, long))
  fewer_by (row ∷ rows) (o ∷ old) [] long even each = absurd (omega (arith, even))
  fewer_by (row ∷ rows) (o ∷ old) (n ∷ new) long even each =
      let one = each 0 height row o n refl refl refl in
      let others = fewer_by rows old new (omega (arith, long)) (omega (arith, even))
      (λ k high r before after is was now. each (suc k) high r before after is was now) in
      let more = spread_fewer (all_places height row n) (all_places height row o) (behind (choices_of height rows new))
      (behind (choices_of height rows old)) one.fewer others in
      let first : length (places_behind height row n) ≡ length (places_behind height row o) = ap length one.later in
      omega (arith, more, first, front_long row n rows new, front_long row o rows old) where
        front_long : (r : CompiledRow) (row_scratch : Scratch) (rs : List CompiledRow) (scratch : List Scratch) →
            length (behind (choices_of height (r ∷ rs) (row_scratch ∷ scratch)))
            ≡ length (places_behind height r row_scratch)
            + length (spread (all_places height r row_scratch) (behind (choices_of height rs scratch)))
        front_long r row_scratch rs scratch =
            length-append (map (λ place. place ∷ chosen (choices_of height rs scratch)) (places_behind height r row_scratch))
            (spread (all_places height r row_scratch) (behind (choices_of height rs scratch)))
            ∙ ap (λ (n : ℕ). n + length (spread (all_places height r row_scratch) (behind (choices_of height rs scratch))))
            (length-map (places_behind height r row_scratch) (λ place. place ∷ chosen (choices_of height rs scratch)))

  pub fewer_behind : (rows : List CompiledRow) (old new : List Scratch) → length rows ≤ length old →
      AreForgotten rows old new →
      length (behind (choices_of height rows new)) ≤ length (behind (choices_of height rows old))
  fewer_behind rows old new long so = fewer_by rows old new long so.long so.each
