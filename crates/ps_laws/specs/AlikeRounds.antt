-- Two lists of rules are alike on a game where their rounds come to the same from each grid of the game. What they come
-- to is again a grid of the game. They needn't be alike rule by rule, nor have as many rules: several may stand for
-- one, some may be left out, and each may face down or right. Whatever is made of rounds comes to the same then:
-- groups, passes, loops, sections and programs.
use Rattle.std.specs.Prelude.{ℕ, List, ◌∷◌, ◌++◌, map, All}
use Rattle.std.specs.List.{AllZip, flat_map}
use Rattle.ps_model.specs.names.Names.{Names}
use Rattle.ps_model.specs.board.GameGrids.{IsGridOf}
use Rattle.ps_model.specs.meaning.RuleMeanings.{RuleMeaning}
use Rattle.ps_model.specs.board.Attempts.{State}
use Rattle.ps_model.specs.board.Programs.{Section, round, group, pass, looped, section_run, program_run}
use Rattle.ps_laws.specs.EachGroup.{GroupByGroup}
use Rattle.ps_laws.specs.EqualMeanings.{SameGroup, EqualResults, EqualProgress, EqualStates}
use Rattle.ps_model.specs.meaning.TurnedRound.{forwards}
use Rattle.ps_laws.specs.KeptGrids.{Keeps}
use Rattle.ps_laws.specs.IdleRules.{IsIdle}

-- alike ---------------------------------------------------------------------------------------------------------------

-- two lists of rules are alike on a game: from each of its grids their rounds come to the same, and to a grid of the
-- game
abbrev pub Alike : Names → List RuleMeaning → List RuleMeaning → Type 0
Alike names a b = (state : State) → IsGridOf names state.grid → EqualResults names (round a state) (round b state)

-- two sections are alike: both are groups whose rules are alike, or both are loops over groups that are alike one by
-- one
abbrev pub AlikeSection : Names → Section → Section → Type 0
AlikeSection names a b = GroupByGroup (Alike names) a b

-- what is alike -------------------------------------------------------------------------------------------------------

-- rules whose cells keep the cells of the game are alike with themselves
abbrev pub KeptAreAlike : Type 0
KeptAreAlike = (names : Names) (rules : List RuleMeaning) → All (Keeps names) rules → Alike names rules rules

-- groups that are alike rule by rule are alike
abbrev pub SameAreAlike : Type 0
SameAreAlike = (names : Names) (a b : List RuleMeaning) → SameGroup names a b → Alike names a b

-- if one list is alike with another, that one is with the first
abbrev pub AlikeBothWays : Type 0
AlikeBothWays = (names : Names) (a b : List RuleMeaning) → Alike names a b → Alike names b a

-- if one list is alike with a second, and that one with a third, the first is alike with the third
abbrev pub AlikeThroughAnother : Type 0
AlikeThroughAnother = (names : Names) (a b c : List RuleMeaning) → Alike names a b → Alike names b c → Alike names a c

-- lists that are alike stay so with lists after them that are alike
abbrev pub AppendedAreAlike : Type 0
AppendedAreAlike =
    (names : Names) (a b c d : List RuleMeaning) → Alike names a b → Alike names c d → Alike names (a ++ c) (b ++ d)

-- so do lists of lists that are alike one by one, joined: whatever stands for each rule of a group stands for the group
abbrev pub JoinedAreAlike : Type 0
JoinedAreAlike = (names : Names) (a b : List (List RuleMeaning)) → AllZip (Alike names) a b →
    Alike names (flat_map (λ rules. rules) a) (flat_map (λ rules. rules) b)

-- lists that are alike stay so where the rules of the first are turned to face down or right
abbrev pub ForwardsAreAlike : Type 0
ForwardsAreAlike = (names : Names) (a b : List RuleMeaning) → Alike names a b → Alike names (map forwards a) b

-- and where a rule that does nothing stands before the first
abbrev pub IdleIsLeftOut : Type 0
IdleIsLeftOut =
    (names : Names) (rule : RuleMeaning) (a b : List RuleMeaning) → IsIdle names rule → Alike names a b →
    Alike names (rule ∷ a) b

-- what is made of it --------------------------------------------------------------------------------------------------

-- the groups of rules that are alike are equal
abbrev pub AlikeGroups : Type 0
AlikeGroups = (names : Names) (a b : List RuleMeaning) → Alike names a b → (state : State) → IsGridOf names state.grid →
    EqualResults names (group a state) (group b state)

-- the passes of groups that are alike one by one are equal
abbrev pub AlikePasses : Type 0
AlikePasses =
    (names : Names) (a b : List (List RuleMeaning)) → AllZip (Alike names) a b → (state : State) →
    IsGridOf names state.grid →
    EqualResults names (pass a state) (pass b state)

-- and so are the loops over them, with as many repeats left
abbrev pub AlikeLoops : Type 0
AlikeLoops =
    (names : Names) (a b : List (List RuleMeaning)) → AllZip (Alike names) a b → (repeats : ℕ) (state : State) →
    IsGridOf names state.grid →
    EqualProgress names (looped a repeats state) (looped b repeats state)

-- two sections that are alike are equal
abbrev pub AlikeSections : Type 0
AlikeSections =
    (names : Names) (a b : Section) → AlikeSection names a b → (repeats : ℕ) (state : State) →
    IsGridOf names state.grid →
    EqualProgress names (section_run a repeats state) (section_run b repeats state)

-- and so are two programs that are alike section by section
abbrev pub AlikePrograms : Type 0
AlikePrograms =
    (names : Names) (a b : List Section) → AllZip (AlikeSection names) a b → (state : State) →
    IsGridOf names state.grid →
    EqualStates names (program_run a state) (program_run b state)
