use Rattle.std.proofs.Common.{◌∙◌, ◌<◌, ℕ, inl, inr, List, Bool, [], length, sym, ap, ap₂, arith}
use Rattle.std.specs.Prelude.{slice_index_or, slice_set}
use Rattle.std.proofs.lemmas.Bool.{cases_eq}
use Rattle.std.proofs.lemmas.List.{get_or-set_other, get_or-set_same, get_or_read, length-set}
use Rattle.ps_board.specs.ColumnSets.{both_columns}
use Rattle.ps_rows.proofs.scanning_rows.fill_three.Goals as goal

pub loop-step-preserved : goal.loop-step-preserved
loop-step-preserved g c =
    let was = c.loop-step.invariant in
    let now : List (List Bool) = c.loop-step.found in
    let step : ℕ = c.loop-step.step in
    let words : List (List Bool) = c.args.words.now in
    let others : List (List Bool) = c.args.others.now in
    let set : List Bool = c.both-in-loop-step.result in
    let inside : step < length now = omega (arith, c.loop-step-test.true, was.long) in
    let beside : step < length words = omega (arith, c.loop-step-test.true, c.requires.words) in
    let beyond : step < length others = omega (arith, c.loop-step-test.true, c.requires.others) in
    record {
      done = λ k below. elim (cases_eq k step) [
        | inl e ↦
            ap (λ (n : ℕ). slice_index_or (slice_set now step set) n []) e ∙ get_or-set_same now step set [] inside
            ∙ c.both-in-loop-step.ensures
            ∙ ap₂ both_columns
            (c.both.ensures
            ∙ ap (both_columns c.args.columns) (get_or_read words step _ beside c.index-words-step.is []))
            (get_or_read others step _ beyond c.index-others-step.is [])
            ∙ ap (λ (n : ℕ). both_columns (both_columns c.args.columns (slice_index_or words n []))
            (slice_index_or others n [])) (sym e)
        | inr n ↦ get_or-set_other now step k set [] n ∙ was.done k (omega (arith, below, n))
      ];
      long = length-set now step set ∙ was.long;
    }

pub returns : goal.returns
returns g c = record {
  both = λ k low. c.loop-step.invariant.done k (omega (arith, low, c.loop-step-test.false));
  long = c.loop-step.invariant.long;
}
