-- Rounds, groups, loops and programs. A round is the attempts of a group's rules in order. A group makes rounds until
-- one changes nothing, or until their limit. A loop's body is passed once, and again while the last pass changed
-- something. The repeats of all loops of one run count together; where one more than their limit is due, the rest of
-- the program isn't run.
use Rattle.std.specs.Prelude.{ℕ, zero, suc, Bool, true, false, ◌||◌, List, [], ◌∷◌}
use Rattle.ps_model.specs.declared.limits.TheConstants.{ROUND_LIMIT, REPEAT_LIMIT}
use Rattle.ps_model.specs.meaning.RuleMeanings.{RuleMeaning}
use Rattle.ps_model.specs.board.Attempts.{State, Result, attempt}
pub use Rattle.ps_model.specs.board.RuleSections.{SectionOf, Group, Loop}

-- a section of a program
abbrev pub Section : Type 0
Section = SectionOf RuleMeaning

-- a result, of which it is known whether something changed before
abbrev pub after_change : Bool → Result → Result
after_change changed result = record { state = result.state; changed = changed || result.changed }

-- the attempts of rules, one after the other
abbrev pub round : List RuleMeaning → State → Result
round [] state = record { state = state; changed = false }
round (rule ∷ rules) state = let first : Result = attempt rule state in
    after_change first.changed (round rules first.state)

-- rounds, up to a limit, until one changes nothing; `changed` says whether an earlier one changed something
abbrev pub settled : List RuleMeaning → ℕ → Bool → State → Result
settled rules zero changed state = record { state = state; changed = changed }
settled rules (suc rounds) changed state =
    let next : Result = round rules state in
    elim next.changed [
      | true ↦ settled rules rounds true next.state
      | false ↦ record {
        state = next.state;
        changed =
            changed;
      }
    ]

-- a group
unfoldable pub group : List RuleMeaning → State → Result
group rules state = settled rules ROUND_LIMIT false state

-- a pass of a loop's body: its groups, one after the other
abbrev pub pass : List (List RuleMeaning) → State → Result
pass [] state = record { state = state; changed = false }
pass (rules ∷ others) state = let first : Result = group rules state in
    after_change first.changed (pass others first.state)

-- a state that a program has come to, the repeats that are left for its loops, and whether one more was due than there
-- were
pub record Progress : Type 0 where
  pub state : State
  pub repeats : ℕ
  pub stopped : Bool

-- a loop with a number of repeats left: a pass, and a repeat while the last pass changed something
abbrev pub looped : List (List RuleMeaning) → ℕ → State → Progress
looped body zero state = let next : Result = pass body state in
    record { state = next.state; repeats = 0; stopped = next.changed }
looped body (suc repeats) state =
    let next : Result = pass body state in
    elim next.changed [
      | true ↦ looped body repeats next.state
      | false ↦ record {
        state = next.state;
        repeats =
            suc repeats;
        stopped = false;
      }
    ]

-- a section with a number of repeats left
abbrev pub section_run : Section → ℕ → State → Progress
section_run (Group rules) repeats state = let result : Result = group rules state in
    record { state = result.state; repeats = repeats; stopped = false }
section_run (Loop body) repeats state = looped body repeats state

-- the sections of a program, one after the other
abbrev pub sections_run : List Section → ℕ → State → State
sections_run [] repeats state = state
sections_run (section ∷ others) repeats state =
    let next : Progress = section_run section repeats state in
    elim next.stopped [ true ↦ next.state | false ↦ sections_run others next.repeats next.state ]

-- a run of a program
unfoldable pub program_run : List Section → State → State
program_run sections state = sections_run sections REPEAT_LIMIT state
