-- The rows of a rule rewritten at the places that are chosen, row by row.
use Rattle.std.proofs.Common.{◌≡◌, ◌∙◌, ℕ, suc, zero, ◌<◌, ◌≤◌, Bool, true, false, Option, Some, List, [], ◌∷◌, length}
use Rattle.std.proofs.Common.{drop, fold, refl, sym, ap, ap₂, arith}
use Rattle.std.specs.Prelude.{◌==◌, slice_get}
use Rattle.std.proofs.lemmas.Bool.Decides.{nat_tests}
use Rattle.std.proofs.lemmas.List.{drop_all}
use Rattle.std.proofs.lemmas.Option.{none-some, same_Some}
use Rattle.ps_match.specs.InRoom.{sides_of}
use Rattle.ps_model.specs.board.Grid.{Grid}
use Rattle.ps_model.specs.board.Attempts.{Rewritten, all_fit, applied, rewritten_along, rewritten_rows}
use Rattle.ps_model.specs.meaning.RuleMeanings.{CellMeaning}
use Rattle.ps_program.specs.declared.rows.CompiledRow.{CompiledRow}
use Rattle.ps_places.specs.Scratch.{Scratch}
use Rattle.ps_places.specs.RowPlaces.{cells_meaning, place_at}
use Rattle.ps_places.specs.Ways.{from_first}
use Rattle.ps_engine.specs.Choices.{behind, choices_of, chosen}
use Rattle.ps_engine.specs.Choosing.{rows_meaning}
use Rattle.ps_engine.proofs.Choosing.{cells_in-meant}
use Rattle.ps_engine.proofs.Sought.{no_more, passed_over}

-- what is left of rows rewritten, from one on
abbrev pub rewritten_from : Option (List ℕ) → ℕ → List CompiledRow → List Scratch → ℕ → Rewritten → Rewritten
rewritten_from table height rows scratch n r =
    rewritten_rows r (rows_meaning table (drop n rows)) (chosen (choices_of height (drop n rows) (drop n scratch)))

pub rewritten_more : (table : Option (List ℕ)) (height n m : ℕ) (rows : List CompiledRow) (scratch : List Scratch)
    (row : CompiledRow) (row_scratch : Scratch) (r : Rewritten) →
    slice_get rows n ≡ Some row → slice_get scratch n ≡ Some row_scratch → m ≡ suc n →
    rewritten_from table height rows scratch n r ≡ rewritten_from table height rows scratch m
    (rewritten_along r (cells_meaning table row.parts) (place_at height row row_scratch))
rewritten_more table height n m [] scratch row row_scratch r is there next = absurd (none-some row is)
rewritten_more table height n m (x ∷ rows) [] row row_scratch r is there next = absurd (none-some row_scratch there)
rewritten_more table height zero m (x ∷ rows) (y ∷ scratch) row row_scratch r is there next =
    let e : x ≡ row = same_Some x row is in
    let d : y ≡ row_scratch = same_Some y row_scratch there in
    ap (λ (ms : List CellMeaning). rewritten_from table height rows scratch 0
    (rewritten_along r ms (place_at height x y))) (cells_in-meant table x.parts)
    ∙ ap₂ (λ (a : CompiledRow) (b : Scratch). rewritten_from table height rows scratch 0
    (rewritten_along r (cells_meaning table a.parts) (place_at height a b))) e d
    ∙ ap (λ (k : ℕ). rewritten_from table height (x ∷ rows) (y ∷ scratch) k
    (rewritten_along r (cells_meaning table row.parts) (place_at height row row_scratch))) (sym next)
rewritten_more table height (suc n) m (x ∷ rows) (y ∷ scratch) row row_scratch r is there next =
    rewritten_more table height n (suc n) rows scratch row row_scratch r is there refl
    ∙ ap (λ (k : ℕ). rewritten_from table height (x ∷ rows) (y ∷ scratch) k
    (rewritten_along r (cells_meaning table row.parts) (place_at height row row_scratch))) (sym next)

pub rewritten_end : (table : Option (List ℕ)) (height n : ℕ) (rows : List CompiledRow) (scratch : List Scratch)
    (r : Rewritten) → length rows ≤ n → rewritten_from table height rows scratch n r ≡ r
rewritten_end table height n rows scratch r h =
    ap (λ (rs : List CompiledRow). rewritten_rows r (rows_meaning table rs)
    (chosen (choices_of height rs (drop n scratch)))) (drop_all n rows h)

-- a list that is empty or isn't, by the test of its length
pub none_there : {X : Type 0} (xs : List X) → (length xs == 0) ≡ true → length xs ≤ 0
none_there xs e = grind (arith, nat_tests)

pub some_there : {X : Type 0} (xs : List X) → (length xs == 0) ≡ false → 0 < length xs
some_there xs e = grind (arith, nat_tests)

pub same_height : (now start : Grid) → sides_of now ≡ sides_of start → now.height ≡ start.height
same_height now start same = ap (λ (s : ℕ × ℕ × ℕ). s.1) same

-- a combination in which a row doesn't fit does nothing, and one in which each fits is applied
by_fit : (test : Bool) (more r : Rewritten) → test ≡ false → (elim test [ true ↦ more | false ↦ r ]) ≡ r
by_fit test more r e = rw e refl

when_fit : (test : Bool) (more r : Rewritten) → test ≡ true → (elim test [ true ↦ more | false ↦ r ]) ≡ more
when_fit test more r e = rw e refl

module _ (meant : List (List (List CellMeaning))) where
  pub does_nothing : (r : Rewritten) (places : List (List ℕ)) → all_fit r.grid meant places ≡ false →
      applied meant r places ≡ r
  does_nothing r places off = by_fit (all_fit r.grid meant places) (rewritten_rows r meant places) r off

  pub is_applied : (r : Rewritten) (places : List (List ℕ)) → all_fit r.grid meant places ≡ true →
      applied meant r places ≡ rewritten_rows r meant places
  is_applied r places fit = when_fit (all_fit r.grid meant places) (rewritten_rows r meant places) r fit

  -- one turn of the walk: the combination that is chosen is applied, and those that can't be are passed over
  pub one_turn : (before after : Rewritten) (places : List (List ℕ)) (behind end : List (List (List ℕ))) →
      all_fit before.grid meant places ≡ true → after ≡ rewritten_rows before meant places →
      from_first (all_fit after.grid meant) behind ≡ end →
      fold (applied meant) after end ≡ fold (applied meant) before (places ∷ behind)
  one_turn before after places behind end fit made sought =
      ap (fold (applied meant) after) (sym sought)
      ∙ sym (passed_over (all_fit after.grid meant) (applied meant) after behind (does_nothing after))
      ∙ ap (λ (r : Rewritten). fold (applied meant) r behind) (made ∙ sym (is_applied before places fit))

module _ (rows : List CompiledRow) (scratch : List Scratch) (table other : Option (List ℕ)) (height high : ℕ) where
  pub turn : (before after : Rewritten) (end : List (List (List ℕ))) → other ≡ table → high ≡ height →
      all_fit before.grid (rows_meaning table rows) (chosen (choices_of height rows scratch)) ≡ true →
      after ≡ rewritten_rows before (rows_meaning table rows) (chosen (choices_of height rows scratch)) →
      from_first (all_fit after.grid (rows_meaning other rows)) (behind (choices_of high rows scratch)) ≡ end →
      fold (applied (rows_meaning table rows)) after end ≡ fold (applied (rows_meaning table rows)) before
      (chosen (choices_of height rows scratch) ∷ behind (choices_of height rows scratch))
  turn before after end e d fit made sought =
      one_turn (rows_meaning table rows) before after (chosen (choices_of height rows scratch))
      (behind (choices_of height rows scratch)) end fit made
      (ap₂ (λ (t : Option (List ℕ)) (h : ℕ). from_first (all_fit after.grid (rows_meaning t rows))
      (behind (choices_of h rows scratch))) (sym e) (sym d) ∙ sought)

-- fewer are left behind the next one
pub fewer : {X : Type 0} (kind : X → Bool) (xs : List X) (y : X) (ys : List X) → from_first kind xs ≡ y ∷ ys →
    length ys < length xs
fewer kind xs y ys found =
    let most : length (from_first kind xs) ≤ length xs = no_more kind xs in
    let long : length (from_first kind xs) ≡ suc (length ys) = ap length found in
    omega (arith, most, long)
