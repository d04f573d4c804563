use Rattle.std.proofs.Common.{inl, refl}
use Rattle.std.proofs.lemmas.Result.{IfOk-from_err}
use Rattle.ps_engine.proofs.cycle_finder.CycleFinder.step.Goals as goal

pub returns-in_err-keep-clause-rest : goal.returns-in_err-keep-clause-rest
returns-in_err-keep-clause-rest g c = IfOk-from_err c.from_residual.result _ c.from_residual.ensures.0

pub returns-in_err-keep-clause-fewer : goal.returns-in_err-keep-clause-fewer
returns-in_err-keep-clause-fewer g c = IfOk-from_err c.from_residual.result _ c.from_residual.ensures.0

pub returns-in_err-keep-clause-goes : goal.returns-in_err-keep-clause-goes
returns-in_err-keep-clause-goes g c = IfOk-from_err c.from_residual.result _ c.from_residual.ensures.0

pub returns-then-age-self-clause-rest : goal.returns-then-age-self-clause-rest
returns-then-age-self-clause-rest g c = inl refl

pub returns-clause-rest : goal.returns-clause-rest
returns-clause-rest g c = inl refl

pub returns-then-age-self-clause-goes : goal.returns-then-age-self-clause-goes
returns-then-age-self-clause-goes g c = inl (record { keeps = refl; same_board = refl; queue = refl; age = refl })
