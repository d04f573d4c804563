-- Rounds, groups, passes, loops, sections and programs of rules that are alike are equal, and keep the grid one of the
-- game.
use Rattle.std.proofs.Common.{ℕ, List, [], ◌∷◌, refl}
use Rattle.std.specs.List.{AllZip}
use Rattle.ps_model.specs.names.Names.{Names}
use Rattle.ps_model.specs.board.GameGrids.{IsGridOf}
use Rattle.ps_model.specs.meaning.RuleMeanings.{RuleMeaning}
use Rattle.ps_model.specs.board.Attempts.{State, attempt}
use Rattle.ps_model.specs.board.Programs.{Section, Group, Loop, round, group, pass, looped, section_run, program_run}
use Rattle.ps_laws.specs.EqualMeanings.{SameGroup, SameSection, EqualResults, EqualProgress, EqualStates}
use Rattle.ps_laws.specs.AlikeRounds.{Alike, AlikeSection}
use Rattle.ps_laws.proofs.common.Zipped.{AllZip-weaker}
use Rattle.ps_laws.proofs.alike.EqualAttempts.{attempt-same}
use Rattle.ps_laws.proofs.alike.AlikePrograms.{after_change-same, group-alike, pass-alike, looped-alike}
use Rattle.ps_laws.proofs.alike.AlikePrograms.{section_run-alike, program_run-alike}

-- a round
pub round-same : (names : Names) (a b : List RuleMeaning) → SameGroup names a b → (state : State) →
    IsGridOf names state.grid → EqualResults names (round a state) (round b state)
round-same names [] [] h state shape = record { equal = refl; grid = shape }
round-same names [] (y ∷ ys) h state shape = absurd h
round-same names (x ∷ xs) [] h state shape = absurd h
round-same names (x ∷ xs) (y ∷ ys) h state shape =
    let one = attempt-same names x y h.0 state shape in
    after_change-same names (attempt x state) (attempt y state) one (round xs) (round ys)
    (round-same names xs ys h.1 (attempt x state).state one.grid)

-- groups that are alike rule by rule
groups-same : (names : Names) (a b : List (List RuleMeaning)) → AllZip (SameGroup names) a b → AllZip (Alike names) a b
groups-same names a b h = AllZip-weaker (SameGroup names) (Alike names) (round-same names) a b h

section-same : (names : Names) (a b : Section) → SameSection names a b → AlikeSection names a b
section-same names (Group a) (Group b) h = round-same names a b h
section-same names (Group a) (Loop b) h = absurd h
section-same names (Loop a) (Group b) h = absurd h
section-same names (Loop a) (Loop b) h = groups-same names a b h

-- a group
pub group-same : (names : Names) (a b : List RuleMeaning) → SameGroup names a b → (state : State) →
    IsGridOf names state.grid → EqualResults names (group a state) (group b state)
group-same names a b h state shape = group-alike names a b (round-same names a b h) state shape

-- a pass
pub pass-same : (names : Names) (a b : List (List RuleMeaning)) → AllZip (SameGroup names) a b → (state : State) →
    IsGridOf names state.grid → EqualResults names (pass a state) (pass b state)
pass-same names a b h state shape = pass-alike names a b (groups-same names a b h) state shape

-- a loop
pub looped-same : (names : Names) (a b : List (List RuleMeaning)) → AllZip (SameGroup names) a b →
    (repeats : ℕ) (state : State) → IsGridOf names state.grid →
    EqualProgress names (looped a repeats state) (looped b repeats state)
looped-same names a b h repeats state shape = looped-alike names a b (groups-same names a b h) repeats state shape

-- a section
pub section_run-same : (names : Names) (a b : Section) → SameSection names a b → (repeats : ℕ) (state : State) →
    IsGridOf names state.grid →
    EqualProgress names (section_run a repeats state) (section_run b repeats state)
section_run-same names a b h repeats state shape =
    section_run-alike names a b (section-same names a b h) repeats state shape

-- a program
pub program_run-same : (names : Names) (a b : List Section) → AllZip (SameSection names) a b → (state : State) →
    IsGridOf names state.grid → EqualStates names (program_run a state) (program_run b state)
program_run-same names a b h state shape = program_run-alike names a b
    (AllZip-weaker (SameSection names) (AlikeSection names) (section-same names) a b h) state shape
