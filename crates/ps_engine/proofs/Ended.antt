-- Runs that end: at the end of the program, or at `cancel`.
use Rattle.std.proofs.Common.{◌≡◌, ◌∙◌, ℕ, Bool, true, inl, inr, List, ap, sym, subst}
use Rattle.ps_model.specs.declared.rules.Extent.{Extent}
use Rattle.ps_model.specs.declared.rules.Extent.TheVariants.{Whole, UntilCancelled}
use Rattle.ps_model.specs.rules.SourceRules.{Commands}
use Rattle.ps_model.specs.board.Attempts.{State}
use Rattle.ps_model.specs.board.Programs.{Section, sections_run}
use Rattle.ps_laws.specs.CancelledRuns.{HasRun}
use Rattle.ps_laws.proofs.grids.CancelledRuns.{sections_run-cancelled}

-- all rules were run, whether the run might end before or not
pub ran_whole : (extent : Extent) (all came : State) → came ≡ all → HasRun extent all came
ran_whole Whole all came same = same
ran_whole UntilCancelled all came same = inl same

-- the run ended at `cancel`, with sections left
pub ran_to_cancel : (extent : Extent) (left : List Section) (repeats : ℕ) (all came : State) →
    extent ≡ UntilCancelled → came.queue.cancel ≡ true → sections_run left repeats came ≡ all → HasRun extent all came
ran_to_cancel extent left repeats all came ends e same =
    let queue : all.queue ≡ came.queue =
    ap (λ (s : State). s.queue) (sym same) ∙ sections_run-cancelled left repeats came e in
    subst (λ (x : Extent). HasRun x all came) (sym ends) (inr (sym queue, ap (λ (q : Commands). q.cancel) queue ∙ e))
