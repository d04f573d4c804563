-- What every attempt of a program's rules keeps of a state, the program keeps.
use Rattle.std.proofs.Common.{ℕ, zero, suc, Bool, true, false, List, [], ◌∷◌}
use Rattle.std.specs.Prelude.{All}
use Rattle.std.proofs.lemmas.List.Elements.{All-head, All-tail}
use Rattle.ps_model.specs.declared.limits.TheConstants.{ROUND_LIMIT, REPEAT_LIMIT}
use Rattle.ps_model.specs.board.Grid.{Grid}
use Rattle.ps_model.specs.meaning.RuleMeanings.{RuleMeaning}
use Rattle.ps_model.specs.board.Attempts.{State, Result, attempt}
use Rattle.ps_model.specs.board.Programs.{Section, Group, Loop, Progress, round, settled, group, pass, looped}
use Rattle.ps_model.specs.board.Programs.{section_run, sections_run, program_run}
use Rattle.ps_laws.proofs.common.Everywhere.{either_way}

-- what is kept of the grid of a state alone
abbrev pub OfGrid : (Grid → Type 0) → State → Type 0
OfGrid Kept state = Kept state.grid

module _ (Kept : State → Type 0) where
  -- the state of a result has it; that of what a program has come to
  abbrev pub ResultKeeps : Result → Type 0
  ResultKeeps result = Kept result.state

  abbrev pub ProgressKeeps : Progress → Type 0
  ProgressKeeps progress = Kept progress.state

  -- an attempt of the rule keeps it
  abbrev pub RuleKeeps : RuleMeaning → Type 0
  RuleKeeps rule = (state : State) → Kept state → Kept (attempt rule state).state

  -- attempts of all rules of a section do
  abbrev pub SectionKeeps : Section → Type 0
  SectionKeeps (Group rules) = All RuleKeeps rules
  SectionKeeps (Loop body) = All (All RuleKeeps) body

  pub round-keeps : (rules : List RuleMeaning) (state : State) → All RuleKeeps rules → Kept state →
      Kept (round rules state).state
  round-keeps [] state all h = h
  round-keeps (rule ∷ rules) state all h =
      round-keeps rules (attempt rule state).state (All-tail RuleKeeps rule rules all)
      (All-head RuleKeeps rule rules all state h)

  pub settled-keeps : (rules : List RuleMeaning) (rounds : ℕ) (changed : Bool) (state : State) → All RuleKeeps rules →
      Kept state →
      Kept (settled rules rounds changed state).state
  settled-keeps rules zero changed state all h = h
  settled-keeps rules (suc rounds) changed state all h =
      let next : Result = round rules state in
      let kept : Kept next.state = round-keeps rules state all h in
      either_way ResultKeeps next.changed (settled rules rounds true next.state)
      (record { state = next.state; changed = changed })
      (settled-keeps rules rounds true next.state all kept) kept

  pub group-keeps : (rules : List RuleMeaning) (state : State) → All RuleKeeps rules → Kept state →
      Kept (group rules state).state
  unfolding group
  group-keeps rules state all h = settled-keeps rules ROUND_LIMIT false state all h

  pub pass-keeps : (body : List (List RuleMeaning)) (state : State) → All (All RuleKeeps) body → Kept state →
      Kept (pass body state).state
  pass-keeps [] state all h = h
  pass-keeps (rules ∷ others) state all h =
      pass-keeps others (group rules state).state (All-tail (All RuleKeeps) rules others all)
      (group-keeps rules state (All-head (All RuleKeeps) rules others all) h)

  pub looped-keeps : (body : List (List RuleMeaning)) (repeats : ℕ) (state : State) → All (All RuleKeeps) body →
      Kept state → Kept (looped body repeats state).state
  looped-keeps body zero state all h = pass-keeps body state all h
  looped-keeps body (suc repeats) state all h =
      let next : Result = pass body state in
      let kept : Kept next.state = pass-keeps body state all h in
      either_way ProgressKeeps next.changed (looped body repeats next.state)
      (record { state = next.state; repeats = suc repeats; stopped = false })
      (looped-keeps body repeats next.state all kept) kept

  pub section_run-keeps : (section : Section) (repeats : ℕ) (state : State) → SectionKeeps section → Kept state →
      Kept (section_run section repeats state).state
  section_run-keeps (Group rules) repeats state all h = group-keeps rules state all h
  section_run-keeps (Loop body) repeats state all h = looped-keeps body repeats state all h

  pub sections_run-keeps : (sections : List Section) (repeats : ℕ) (state : State) → All SectionKeeps sections →
      Kept state → Kept (sections_run sections repeats state)
  sections_run-keeps [] repeats state all h = h
  sections_run-keeps (section ∷ others) repeats state all h =
      let next : Progress = section_run section repeats state in
      let kept : Kept next.state = section_run-keeps section repeats state
      (All-head SectionKeeps section others all) h in
      either_way Kept next.stopped next.state (sections_run others next.repeats next.state)
      kept (sections_run-keeps others next.repeats next.state (All-tail SectionKeeps section others all) kept)

  pub program_run-keeps : (sections : List Section) (state : State) → All SectionKeeps sections → Kept state →
      Kept (program_run sections state)
  unfolding program_run
  program_run-keeps sections state all h = sections_run-keeps sections REPEAT_LIMIT state all h
