use Rattle.std.proofs.Common.{◌≡◌, ◌≢◌, ◌≤◌, ◌∙◌, ◌<◌, ℕ, inl, inr, List, Bool, [], length, sym, ap, arith}
use Rattle.std.specs.Prelude.{slice_index_or, slice_set}
use Rattle.std.proofs.lemmas.Bool.{cases_eq}
use Rattle.std.proofs.lemmas.List.{get_or-set_other, get_or-set_same, get_or_read, length-set}
use Rattle.ps_board.specs.ColumnSets.{columns_without}
use Rattle.ps_rows.proofs.Joined.{others_left}
use Rattle.ps_rows.proofs.scanning_rows.turn_round.Goals as goal

pub loop-step-preserved : goal.loop-step-preserved
loop-step-preserved g c =
    let was = c.loop-step.invariant in
    let old : List (List Bool) = c.args.found.now in
    let now : List (List Bool) = c.loop-step.found in
    let step : ℕ = c.loop-step.step in
    let set : List Bool = c.without.result in
    let within : step < length now = omega (arith, c.loop-step-test.true, was.long) in
    let own : step ≤ step = omega arith in
    record {
      done = λ k below. elim (cases_eq k step) [
        | inl e ↦
            ap (λ (n : ℕ). slice_index_or (slice_set now step set) n []) e ∙ get_or-set_same now step set [] within
            ∙ c.without.ensures
            ∙ ap (columns_without c.args.columns)
            (get_or_read now step _ within c.index-found-step.is [] ∙ was.left step own)
            ∙ ap (λ (n : ℕ). columns_without c.args.columns (slice_index_or old n [])) (sym e)
        | inr n ↦ get_or-set_other now step k set [] n ∙ was.done k (omega (arith, below, n))
      ];
      left = others_left columns_without old old now step set was.left;
      long = length-set now step set ∙ was.long;
    }

pub returns : goal.returns
returns g c = record {
  round = λ k low. c.loop-step.invariant.done k (omega (arith, low, c.loop-step-test.false));
  long = c.loop-step.invariant.long;
}
