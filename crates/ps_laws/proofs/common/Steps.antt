-- Steps that are made one after the other while they change something.
use Rattle.std.proofs.Common.{◌≡◌, ℕ, zero, suc, ◌-◌, ◌≤◌, ◌<◌, true, ◌∙◌, ap, arith}
use Rattle.ps_model.specs.board.Attempts.{State}
use Rattle.ps_laws.specs.Settling.{Repeated, reached_by, changes}

-- a step after the first is a step from where the first leads
pub changes-next : (number : ℕ) (step : Repeated) (state : State) → 1 ≤ number →
    changes (suc number) step state ≡ changes number step (step state).state
changes-next zero step state h = absurd (omega arith)
changes-next (suc number) step state h =
    let here : suc (suc number) - 1 ≡ suc number = omega arith in
    let there : number ≡ suc number - 1 = omega arith in
    ap (λ (before : ℕ). (step (reached_by before step state)).changed) here
    ∙ ap (λ (before : ℕ). (step (reached_by before step (step state).state)).changed) there

-- there is no step before the first
pub changes-before_first : (step : Repeated) (state : State) (number : ℕ) → 1 ≤ number → number < 1 →
    changes number step state ≡ true
changes-before_first step state number low high = absurd (omega arith)

-- where the first changes something, and from there on each before the last, each does
pub changes-before_last : (step : Repeated) (state : State) (last : ℕ) → (step state).changed ≡ true →
    ((number : ℕ) → 1 ≤ number → number < last → changes number step (step state).state ≡ true) → (number : ℕ) →
    1 ≤ number → number < suc last → changes number step state ≡ true
changes-before_last step state last first others zero low high = absurd (omega arith)
changes-before_last step state last first others (suc zero) low high = first
changes-before_last step state last first others (suc (suc number)) low high =
    changes-next (suc number) step state (omega arith) ∙ others (suc number) (omega arith) (omega arith)
