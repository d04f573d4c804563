use Rattle.std.proofs.Common.{◌≡◌, ◌≢◌, ◌∙◌, ℕ, ◌+◌, ◌<◌, ◌≤◌, Bool, List, [], length, inl, inr, ap, ap₂, arith}
use Rattle.std.specs.Prelude.{slice_index_or, slice_set}
use Rattle.std.proofs.lemmas.Bool.{cases_eq}
use Rattle.std.proofs.lemmas.List.{get_or-set_other, get_or-set_same, get_or_read, length-set}
use Rattle.ps_board.specs.ColumnSets.{both_columns, columns_behind}
use Rattle.ps_places.proofs.part_starts.keep_behind.Goals as goal

module _ (old kept others : List (List Bool)) (steps place : ℕ) (now was other moved : List Bool)
    (within : place < length kept) (long : length kept ≡ length old) (same_long : length others ≡ length old)
    (left : (k : ℕ) → place ≤ k → slice_index_or kept k [] ≡ slice_index_or old k []) where
  done_more : now ≡ both_columns was moved → moved ≡ columns_behind other steps →
      was ≡ slice_index_or kept place was → other ≡ slice_index_or others place other →
      ((k : ℕ) → k < place → slice_index_or kept k []
      ≡ both_columns (slice_index_or old k []) (columns_behind (slice_index_or others k []) steps)) →
      (k : ℕ) → k < place + 1 → slice_index_or (slice_set kept place now) k []
      ≡ both_columns (slice_index_or old k []) (columns_behind (slice_index_or others k []) steps)
  done_more is behind read read_other done k low = elim (cases_eq k place) [
    | inl same ↦
        let around : place < length others = omega (arith, within, long, same_long) in
        rw same (get_or-set_same kept place now [] within ∙ is
        ∙ ap₂ both_columns (get_or_read kept place was within read [] ∙ left place (omega arith))
        (behind ∙ ap (λ (set : List Bool). columns_behind set steps)
        (get_or_read others place other around read_other [])))
    | inr apart ↦
        let before : k < place = omega (arith, low, apart) in
        get_or-set_other kept place k now [] apart ∙ done k before
  ]

  left_more : (k : ℕ) → place + 1 ≤ k → slice_index_or (slice_set kept place now) k [] ≡ slice_index_or old k []
  left_more k far =
      let apart : k ≢ place = omega (arith, far) in
      get_or-set_other kept place k now [] apart ∙ left k (omega (arith, far))

bounded : (k place long : ℕ) → k < long → long ≤ place → k < place
bounded k place long low far = omega arith

pub loop-place-preserved : goal.loop-place-preserved
loop-place-preserved g c =
    let old : List (List Bool) = c.args.kept.now in
    let within : c.loop-place.place < length c.loop-place.kept =
    rw c.loop-place.invariant.long c.loop-place-test.true in
    record {
      done = done_more old c.loop-place.kept c.args.others.now c.args.steps c.loop-place.place c.both.result
          c.index-kept-place.result c.index-others-place.result c.behind.result within c.loop-place.invariant.long
          c.requires c.loop-place.invariant.left c.both.ensures c.behind.ensures c.index-kept-place.is
          c.index-others-place.is c.loop-place.invariant.done;
      left = left_more old c.loop-place.kept c.args.others.now c.args.steps c.loop-place.place c.both.result
          c.index-kept-place.result c.index-others-place.result c.behind.result within c.loop-place.invariant.long
          c.requires c.loop-place.invariant.left;
      long = length-set c.loop-place.kept c.loop-place.place c.both.result ∙ c.loop-place.invariant.long;
    }

pub returns-clause-kept : goal.returns-clause-kept
returns-clause-kept g c = λ k low.
    c.loop-place.invariant.done k (bounded k c.loop-place.place (length c.args.kept.now) low c.loop-place-test.false)

pub returns-clause-long : goal.returns-clause-long
returns-clause-long g c = c.loop-place.invariant.long
