use Rattle.std.proofs.Common.{inl, inr, sym, subst, arith}
use Rattle.std.proofs.lemmas.Bool.{cases_eq}
use Rattle.ps_places.specs.LeavingAlone.{ApartLieAlone}
use Rattle.ps_places.proofs.leaving_alone.independent_places.Goals as goal

pub loop-distance-preserved : goal.loop-distance-preserved
loop-distance-preserved g c = λ distance more low. elim (cases_eq distance c.loop-distance.distance) [
  | inl same ↦
      subst (ApartLieAlone c.args.axis c.args.part.now c.args.rows c.args.starts.now) (sym same)
      (c.apart_are_independent.ensures c.if-not-apart_are_independent.false)
  | inr other ↦ c.loop-distance.invariant distance more (omega (arith, low, other))
]
