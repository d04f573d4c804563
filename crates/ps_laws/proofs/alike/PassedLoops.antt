-- The passes of a loop are made until one changes nothing, or until no repeat is left.
use Rattle.std.proofs.Common.{◌≡◌, ℕ, zero, suc, true, false, List, refl, ◌∙◌, sym, arith}
use Rattle.ps_model.specs.meaning.RuleMeanings.{RuleMeaning}
use Rattle.ps_model.specs.board.Attempts.{State, Result}
use Rattle.ps_model.specs.board.Programs.{Progress, pass, looped}
use Rattle.ps_laws.specs.Settling.{Passes}
use Rattle.ps_laws.proofs.common.EitherWay.{either_way}
use Rattle.ps_laws.proofs.common.Steps.{changes-next, changes-before_first, changes-before_last}

-- no repeat is left
passes_at_limit : (body : List (List RuleMeaning)) (state : State) →
    Passes body 0 state (record { state = (pass body state).state; repeats = 0; stopped = (pass body state).changed })
passes_at_limit body state = record {
  passes = 1;
  some_pass = omega arith;
  few_passes = omega arith;
  reached = refl;
  going_on = changes-before_first (pass body) state;
  stopped = refl;
  used_up = λ e. refl;
  left = refl;
}

-- the first pass changes nothing
passes_at_once : (body : List (List RuleMeaning)) (repeats : ℕ) (state : State) → (pass body state).changed ≡ false →
    Passes body repeats state (record { state = (pass body state).state; repeats = repeats; stopped = false })
passes_at_once body repeats state e = record {
  passes = 1;
  some_pass = omega arith;
  few_passes = omega arith;
  reached = refl;
  going_on = changes-before_first (pass body) state;
  stopped = sym e;
  used_up = λ stopped. absurd (cc);
  left = omega arith;
}

-- the first pass changes something, and there are others
passes_later : (body : List (List RuleMeaning)) (repeats : ℕ) (state : State) (progress : Progress) →
    (pass body state).changed ≡ true →
    Passes body repeats (pass body state).state progress → Passes body (suc repeats) state progress
passes_later body repeats state progress e h = record {
  passes = suc h.passes;
  some_pass = omega arith;
  few_passes = omega (arith, h.few_passes);
  reached = h.reached;
  going_on = changes-before_last (pass body) state h.passes e h.going_on;
  stopped = h.stopped ∙ sym (changes-next h.passes (pass body) state h.some_pass);
  used_up = λ stopped. omega (arith, h.used_up stopped);
  left = omega (arith, h.left, h.some_pass);
}

-- a loop makes its passes
pub looped-passes : (body : List (List RuleMeaning)) (repeats : ℕ) (state : State) →
    Passes body repeats state (looped body repeats state)
looped-passes body zero state = passes_at_limit body state
looped-passes body (suc repeats) state =
    let next : Result = pass body state in
    let more : Progress = looped body repeats next.state in
    either_way (Passes body (suc repeats) state) more
    (record { state = next.state; repeats = suc repeats; stopped = false }) next.changed
    (λ e. passes_later body repeats state more e (looped-passes body repeats next.state))
    (passes_at_once body (suc repeats) state)
