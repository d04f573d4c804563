-- A group of which no rule has a combination does nothing.
use Rattle.std.proofs.Common.{◌≡◌, ◌≢◌, ◌∙◌, ℕ, ◌+◌, ◌-◌, ◌<◌, ◌≤◌, suc, zero, Bool, true, false, Option, List, []}
use Rattle.std.proofs.Common.{◌∷◌, map, drop, get_or, refl, sym, ap, arith}
use Rattle.std.proofs.Math.Bool.{or-false}
use Rattle.std.proofs.lemmas.List.{drop-drop, get_or-drop}
use Rattle.std.proofs.lemmas.List.Elements.{All-head, All-tail}
use Rattle.ps_model.specs.declared.limits.TheConstants.{ROUND_LIMIT}
use Rattle.ps_model.specs.board.Attempts.{Result, State, attempt, attempt_by, combinations_on}
use Rattle.ps_model.specs.board.Programs.{Progress, after_change, group, round, section_run}
use Rattle.ps_model.specs.meaning.RuleMeanings.{RuleMeaning}
use Rattle.ps_program.specs.declared.rules.CompiledRule.{CompiledRule}
use Rattle.ps_program.specs.declared.program.CompiledSection.{CompiledSection}
use Rattle.ps_engine.specs.RulesInRoom.{rule_meaning, rules_meaning, section_meaning}
use Rattle.ps_engine.specs.Lacking.{AreIdleBetween}
use Rattle.ps_engine.specs.QuietGroups.{AreIdleOn, IsIdleOn}
use Rattle.ps_laws.proofs.alike.AlikeRounds.{change_grouped}
use Rattle.ps_engine.proofs.Sequences.{group_is, settled_off}

abbrev still : State → Result
still state = record { state = state; changed = false }

without : (rewrites : Bool) (rule : RuleMeaning) (state : State) → rule.rewrites ≡ rewrites →
    attempt_by rule state [] ≡ still state
without true rule state e = rw e refl
without false rule state e = rw e refl

attempt_still : (rule : RuleMeaning) (state : State) → combinations_on state.grid rule ≡ [] →
    attempt rule state ≡ still state
attempt_still rule state none = ap (attempt_by rule state) none ∙ without rule.rewrites rule state refl

round_still : (table : Option (List ℕ)) (rules : List CompiledRule) (state : State) →
    AreIdleOn state.grid table rules → round (rules_meaning table rules) state ≡ still state
round_still table [] state idle = refl
round_still table (rule ∷ rules) state idle =
    let No : CompiledRule → Type 0 = λ each. combinations_on state.grid (rule_meaning table each) ≡ [] in
    let first : attempt (rule_meaning table rule) state ≡ still state =
    attempt_still (rule_meaning table rule) state (All-head No rule rules idle) in
    ap (λ (r : Result). after_change r.changed (round (rules_meaning table rules) r.state)) first
    ∙ ap (after_change false) (round_still table rules state (All-tail No rule rules idle))

group_still : (table : Option (List ℕ)) (rules : List CompiledRule) (state : State) →
    AreIdleOn state.grid table rules → still state ≡ group (rules_meaning table rules) state
group_still table rules state idle =
    let meant : List RuleMeaning = rules_meaning table rules in
    settled_off meant ROUND_LIMIT 199 false state state refl (sym (round_still table rules state idle))
    ∙ group_is meant ROUND_LIMIT state refl

-- such a section
pub section_still : (table : Option (List ℕ)) (section : CompiledSection) (repeats : ℕ) (state : State) →
    IsIdleOn state.grid table section →
    (let p : Progress = record { state = state; repeats = repeats; stopped = false } in p)
    ≡ section_run (section_meaning table section) repeats state
section_still table section repeats state idle = rw idle.group
    (ap (λ (r : Result). let p : Progress = record { state = r.state; repeats = repeats; stopped = false } in p)
    (group_still table idle.rules state idle.idle))

-- rules of a round without a combination are passed over
passed_front : (table : Option (List ℕ)) (rules : List CompiledRule) (count : ℕ) (changed : Bool) (state : State) →
    ((k : ℕ) (d : CompiledRule) → k < count →
    combinations_on state.grid (rule_meaning table (get_or rules k d)) ≡ []) →
    after_change changed (round (map (rule_meaning table) (drop count rules)) state)
    ≡ after_change changed (round (rules_meaning table rules) state)
passed_front table [] zero changed state idle = refl
passed_front table [] (suc count) changed state idle = refl
passed_front table (rule ∷ rules) zero changed state idle = refl
passed_front table (rule ∷ rules) (suc count) changed state idle =
    let rest : Result = round (rules_meaning table rules) state in
    passed_front table rules count changed state (λ k d low. idle (suc k) d (omega (arith, low)))
    ∙ sym (ap (λ (b : Bool). after_change b rest) (or-false changed))
    ∙ sym (change_grouped changed false rest)
    ∙ sym (ap (λ (r : Result).
    after_change changed (after_change r.changed (round (rules_meaning table rules) r.state)))
    (attempt_still (rule_meaning table rule) state (idle 0 rule (omega arith))))

pub short_of : (n end : ℕ) → n ≤ end → n ≢ end → n < end
short_of n end low other = omega (arith, other)

pub rules_passed : (table : Option (List ℕ)) (rules : List CompiledRule) (n m : ℕ) (changed : Bool) (state : State) →
    n ≤ m → AreIdleBetween state.grid table rules n m →
    after_change changed (round (map (rule_meaning table) (drop m rules)) state)
    ≡ after_change changed (round (map (rule_meaning table) (drop n rules)) state)
rules_passed table rules n m changed state from idle =
    let far : n + (m - n) ≡ m = omega (arith, from) in
    ap (λ (k : ℕ). after_change changed (round (map (rule_meaning table) (drop k rules)) state)) (sym far)
    ∙ ap (λ (rs : List CompiledRule). after_change changed (round (map (rule_meaning table) rs) state))
    (sym (drop-drop (m - n) n rules))
    ∙ passed_front table (drop n rules) (m - n) changed state
    (λ k d low.
    ap (λ (r : CompiledRule). combinations_on state.grid (rule_meaning table r)) (get_or-drop n rules k d)
    ∙ idle (n + k) d (omega arith) (omega (arith, low, from)))
