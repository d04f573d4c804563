use Rattle.std.proofs.Common.{◌≡◌, ◌∙◌, ℕ, ◌+◌, ◌-◌, ◌<◌, inl, inr, true, length, get_or, sym, ap, ap₂, arith, rules}
use Rattle.std.proofs.lemmas.Bool.{cases_eq}
use Rattle.std.proofs.lemmas.Option.{get_or_from_slice_get, slice_get_within}
use Rattle.ps_places.specs.LeavingAlone.{leave_alone}
use Rattle.ps_places.proofs.leaving_alone.are_independent.Goals as goal

pub loop-number-preserved : goal.loop-number-preserved
loop-number-preserved c = λ k first second low is other. elim (cases_eq (k + c.args.distance) c.loop-number.number) [
  | inl same ↦
      let back : c.loop-number.number - c.args.distance ≡ k = omega (arith, same) in
      let one : c.index-part-number.result ≡ first =
      c.index-part-number.is ∙ ap (λ (n : ℕ). get_or c.args.part.now n c.index-part-number.result) back
      ∙ get_or_from_slice_get c.args.part.now k first c.index-part-number.result is in
      let two : c.index-part-number-in-loop-number.result ≡ second =
      c.index-part-number-in-loop-number.is
      ∙ ap (λ (n : ℕ). get_or c.args.part.now n c.index-part-number-in-loop-number.result) (sym same)
      ∙ get_or_from_slice_get c.args.part.now (k + c.args.distance) second c.index-part-number-in-loop-number.result
      other in
      let good : c.leave_alone.result ≡ true = search rules in
      ap₂ leave_alone (sym one) (sym two) ∙ sym c.leave_alone.ensures ∙ good
  | inr apart ↦ c.loop-number.invariant k first second (omega (arith, low, apart)) is other
]

pub returns : goal.returns
returns c = λ e. record {
  at = λ k first second is other.
      let within : k + c.args.distance < length c.args.part.now = slice_get_within c.args.part.now (k + c.args.distance)
      second other in
      c.loop-number.invariant k first second (omega (arith, within, c.loop-number-test.false)) is other;
}
