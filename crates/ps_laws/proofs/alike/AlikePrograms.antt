-- Groups, passes, loops, sections and programs of rules whose rounds are equal are equal, and keep the grid one of the
-- game.
use Rattle.std.proofs.Common.{ℕ, zero, suc, Bool, true, false, List, [], ◌∷◌, refl, ◌∙◌, ap}
use Rattle.std.specs.List.{AllZip}
use Rattle.ps_model.specs.declared.limits.TheConstants.{ROUND_LIMIT, REPEAT_LIMIT}
use Rattle.ps_model.specs.names.Names.{Names}
use Rattle.ps_model.specs.board.GameGrids.{IsGridOf}
use Rattle.ps_model.specs.meaning.RuleMeanings.{RuleMeaning}
use Rattle.ps_model.specs.board.Attempts.{State, Result}
use Rattle.ps_model.specs.board.Programs.{Section, Group, Loop, Progress, after_change, round, settled, group, pass}
use Rattle.ps_model.specs.board.Programs.{looped, section_run, sections_run, program_run}
use Rattle.ps_laws.specs.EqualMeanings.{EqualResults, EqualProgress, EqualStates}
use Rattle.ps_laws.specs.AlikeRounds.{Alike, AlikeSection}
use Rattle.ps_laws.proofs.common.EitherWay.{kept_either}

-- one thing done, and then another
pub after_change-same : (names : Names) (first second : Result) → EqualResults names first second →
    (next next_too : State → Result) →
    EqualResults names (next first.state) (next_too first.state) →
    EqualResults names (after_change first.changed (next first.state))
    (after_change second.changed (next_too second.state))
after_change-same names first second one next next_too more = record {
  equal = ap (after_change first.changed) more.equal
      ∙ ap (λ (result : Result). after_change result.changed (next_too result.state)) one.equal;
  grid = more.grid;
}

-- rounds, at most `rounds`
settled-alike : (names : Names) (a b : List RuleMeaning) → Alike names a b →
    (rounds : ℕ) (changed : Bool) (state : State) → IsGridOf names state.grid →
    EqualResults names (settled a rounds changed state) (settled b rounds changed state)
settled-alike names a b h zero changed state shape = record { equal = refl; grid = shape }
settled-alike names a b h (suc rounds) changed state shape =
    let next : EqualResults names (round a state) (round b state) = h state shape in
    let made : Result = round a state in
    let more = settled-alike names a b h rounds true made.state next.grid in
    let ends : State → Result = λ (end : State). record { state = end; changed = changed } in
    record {
      equal =
          ap (λ (result : Result). elim made.changed [ true ↦ result | false ↦ ends made.state ]) more.equal
          ∙ ap (λ (result : Result). elim result.changed
          [ true ↦ settled b rounds true result.state | false ↦ ends result.state ]) next.equal;
      grid = kept_either (λ (result : Result).
          IsGridOf names result.state.grid) (settled a rounds true made.state) (ends made.state) more.grid next.grid
          made.changed;
    }

-- a group
pub group-alike : (names : Names) (a b : List RuleMeaning) → Alike names a b → (state : State) →
    IsGridOf names state.grid → EqualResults names (group a state) (group b state)
unfolding group
group-alike names a b h state shape = settled-alike names a b h ROUND_LIMIT false state shape

-- a pass
pub pass-alike : (names : Names) (a b : List (List RuleMeaning)) → AllZip (Alike names) a b → (state : State) →
    IsGridOf names state.grid → EqualResults names (pass a state) (pass b state)
pass-alike names [] [] h state shape = record { equal = refl; grid = shape }
pass-alike names [] (y ∷ ys) h state shape = absurd h
pass-alike names (x ∷ xs) [] h state shape = absurd h
pass-alike names (x ∷ xs) (y ∷ ys) h state shape =
    let one = group-alike names x y h.0 state shape in
    after_change-same names (group x state) (group y state) one (pass xs) (pass ys)
    (pass-alike names xs ys h.1 (group x state).state one.grid)

-- a loop
pub looped-alike : (names : Names) (a b : List (List RuleMeaning)) → AllZip (Alike names) a b →
    (repeats : ℕ) (state : State) → IsGridOf names state.grid →
    EqualProgress names (looped a repeats state) (looped b repeats state)
looped-alike names a b h zero state shape =
    let next = pass-alike names a b h state shape in
    record {
      equal = ap (λ (result : Result). let end : Progress =
          record { state = result.state; repeats = 0; stopped = result.changed } in end) next.equal;
      grid = next.grid;
    }
looped-alike names a b h (suc repeats) state shape =
    let next = pass-alike names a b h state shape in
    let made : Result = pass a state in
    let more = looped-alike names a b h repeats made.state next.grid in
    let ends : State → Progress = λ (end : State). record { state = end; repeats = suc repeats; stopped = false } in
    record {
      equal =
          ap (λ (progress : Progress). elim made.changed [ true ↦ progress | false ↦ ends made.state ]) more.equal
          ∙ ap (λ (result : Result). elim result.changed
          [ true ↦ looped b repeats result.state | false ↦ ends result.state ]) next.equal;
      grid = kept_either (λ (progress : Progress).
          IsGridOf names progress.state.grid) (looped a repeats made.state) (ends made.state) more.grid next.grid
          made.changed;
    }

-- a section
pub section_run-alike : (names : Names) (a b : Section) → AlikeSection names a b → (repeats : ℕ) (state : State) →
    IsGridOf names state.grid →
    EqualProgress names (section_run a repeats state) (section_run b repeats state)
section_run-alike names (Group a) (Group b) h repeats state shape =
    let made = group-alike names a b h state shape in
    record {
      equal = ap (λ (result : Result). let end : Progress =
          record { state = result.state; repeats = repeats; stopped = false } in end) made.equal;
      grid = made.grid;
    }
section_run-alike names (Group a) (Loop b) h repeats state shape = absurd h
section_run-alike names (Loop a) (Group b) h repeats state shape = absurd h
section_run-alike names (Loop a) (Loop b) h repeats state shape = looped-alike names a b h repeats state shape

sections_run-alike : (names : Names) (a b : List Section) → AllZip (AlikeSection names) a b →
    (repeats : ℕ) (state : State) → IsGridOf names state.grid →
    EqualStates names (sections_run a repeats state) (sections_run b repeats state)
sections_run-alike names [] [] h repeats state shape = record { equal = refl; grid = shape }
sections_run-alike names [] (y ∷ ys) h repeats state shape = absurd h
sections_run-alike names (x ∷ xs) [] h repeats state shape = absurd h
sections_run-alike names (x ∷ xs) (y ∷ ys) h repeats state shape =
    let next = section_run-alike names x y h.0 repeats state shape in
    let made : Progress = section_run x repeats state in
    let more = sections_run-alike names xs ys h.1 made.repeats made.state next.grid in
    record {
      equal =
          ap (λ (end : State). elim made.stopped [ true ↦ made.state | false ↦ end ]) more.equal
          ∙ ap (λ (progress : Progress). elim progress.stopped
          [ true ↦ progress.state | false ↦ sections_run ys progress.repeats progress.state ]) next.equal;
      grid = kept_either (λ (end : State). IsGridOf names end.grid) made.state
          (sections_run xs made.repeats made.state) next.grid more.grid made.stopped;
    }

-- a program
pub program_run-alike : (names : Names) (a b : List Section) → AllZip (AlikeSection names) a b → (state : State) →
    IsGridOf names state.grid → EqualStates names (program_run a state) (program_run b state)
unfolding program_run
program_run-alike names a b h state shape = sections_run-alike names a b h REPEAT_LIMIT state shape
