-- Rounds, groups, passes, loops, sections and programs of rules that all face down or right.
use Rattle.std.proofs.Common.{◌≡◌, ℕ, zero, suc, Bool, true, false, List, [], ◌∷◌, map, refl, ◌∙◌, ap}
use Rattle.ps_model.specs.declared.limits.TheConstants.{ROUND_LIMIT, REPEAT_LIMIT}
use Rattle.ps_model.specs.meaning.RuleMeanings.{RuleMeaning}
use Rattle.ps_model.specs.board.Attempts.{State, Result, attempt}
use Rattle.ps_model.specs.board.Programs.{Section, Group, Loop, Progress, after_change, round, settled, group, pass}
use Rattle.ps_model.specs.board.Programs.{looped, section_run, sections_run, program_run}
use Rattle.ps_model.specs.meaning.TurnedRound.{forwards, section_forwards}
use Rattle.ps_laws.proofs.alike.TurnedAttempts.{attempt-forwards}

-- a round
pub round-forwards : (rules : List RuleMeaning) (state : State) → round (map forwards rules) state ≡ round rules state
round-forwards [] state = refl
round-forwards (rule ∷ rules) state =
    ap (λ (first : Result). after_change first.changed (round (map forwards rules) first.state))
    (attempt-forwards rule state)
    ∙ ap (after_change (attempt rule state).changed) (round-forwards rules (attempt rule state).state)

-- rounds, at most `rounds`
settled-forwards : (rules : List RuleMeaning) (rounds : ℕ) (changed : Bool) (state : State) →
    settled (map forwards rules) rounds changed state ≡ settled rules rounds changed state
settled-forwards rules zero changed state = refl
settled-forwards rules (suc rounds) changed state =
    let next : Result = round rules state in
    let ends : State → Result = λ (end : State). record { state = end; changed = changed } in
    ap (λ (made : Result). elim made.changed [
      | true ↦ settled (map forwards rules) rounds true made.state
      | false ↦
          ends made.state
    ]) (round-forwards rules state)
    ∙ ap (λ (result : Result). elim next.changed [ true ↦ result | false ↦ ends next.state ])
    (settled-forwards rules rounds true next.state)

-- a group
pub group-forwards : (rules : List RuleMeaning) (state : State) → group (map forwards rules) state ≡ group rules state
unfolding group
group-forwards rules state = settled-forwards rules ROUND_LIMIT false state

-- a pass
pub pass-forwards : (body : List (List RuleMeaning)) (state : State) →
    pass (map (map forwards) body) state ≡ pass body state
pass-forwards [] state = refl
pass-forwards (rules ∷ others) state =
    ap (λ (first : Result). after_change first.changed (pass (map (map forwards) others) first.state))
    (group-forwards rules state)
    ∙ ap (after_change (group rules state).changed) (pass-forwards others (group rules state).state)

-- a loop
pub looped-forwards : (body : List (List RuleMeaning)) (repeats : ℕ) (state : State) →
    looped (map (map forwards) body) repeats state ≡ looped body repeats state
looped-forwards body zero state =
    ap (λ (next : Result). let end : Progress = record { state = next.state; repeats = 0; stopped = next.changed } in
    end) (pass-forwards body state)
looped-forwards body (suc repeats) state =
    let next : Result = pass body state in
    let ends : State → Progress = λ (end : State). record { state = end; repeats = suc repeats; stopped = false } in
    ap (λ (made : Result). elim made.changed [
      | true ↦ looped (map (map forwards) body) repeats made.state
      | false ↦
          ends made.state
    ]) (pass-forwards body state)
    ∙ ap (λ (progress : Progress). elim next.changed [ true ↦ progress | false ↦ ends next.state ])
    (looped-forwards body repeats next.state)

-- a section
pub section_run-forwards : (section : Section) (repeats : ℕ) (state : State) →
    section_run (section_forwards section) repeats state ≡ section_run section repeats state
section_run-forwards (Group rules) repeats state =
    ap (λ (result : Result). let end : Progress =
    record { state = result.state; repeats = repeats; stopped = false } in end) (group-forwards rules state)
section_run-forwards (Loop body) repeats state = looped-forwards body repeats state

sections_run-forwards : (sections : List Section) (repeats : ℕ) (state : State) →
    sections_run (map section_forwards sections) repeats state ≡ sections_run sections repeats state
sections_run-forwards [] repeats state = refl
sections_run-forwards (section ∷ others) repeats state =
    let next : Progress = section_run section repeats state in
    ap (λ (made : Progress). elim made.stopped
    [ true ↦ made.state | false ↦ sections_run (map section_forwards others) made.repeats made.state ])
    (section_run-forwards section repeats state)
    ∙ ap (λ (end : State). elim next.stopped [ true ↦ next.state | false ↦ end ])
    (sections_run-forwards others next.repeats next.state)

-- a program
pub program_run-forwards : (sections : List Section) (state : State) →
    program_run (map section_forwards sections) state ≡ program_run sections state
unfolding program_run
program_run-forwards sections state = sections_run-forwards sections REPEAT_LIMIT state
