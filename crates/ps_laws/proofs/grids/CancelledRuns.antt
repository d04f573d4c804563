-- A queue with `cancel` stays as it is.
use Rattle.std.proofs.Common.{◌≡◌, ◌∙◌, ℕ, true, List, [], ◌∷◌, ap, refl}
use Rattle.std.specs.Prelude.{All}
use Rattle.ps_model.specs.rules.SourceRules.{Commands}
use Rattle.ps_model.specs.meaning.RuleMeanings.{RuleMeaning}
use Rattle.ps_model.specs.board.Attempts.{State, queued, queue_after, combinations_on}
use Rattle.ps_model.specs.board.Programs.{Section, Group, Loop}
use Rattle.ps_laws.specs.CancelledRuns.{SectionsKeepCancelled, ProgramsKeepCancelled}
use Rattle.ps_laws.proofs.common.Everywhere.{All-always}
use Rattle.ps_laws.proofs.grids.KeptPrograms.{RuleKeeps, SectionKeeps, sections_run-keeps, program_run-keeps}

-- a state with this queue
abbrev HasQueue : Commands → State → Type 0
HasQueue queue state = state.queue ≡ queue

nothing-enters : (queue commands : Commands) → queue.cancel ≡ true → queued queue commands ≡ queue
nothing-enters queue commands e = rw e refl

queue-stays : (queue : Commands) (rule : RuleMeaning) (combinations : List (List (List ℕ))) → queue.cancel ≡ true →
    queue_after queue rule combinations ≡ queue
queue-stays queue rule [] e = refl
queue-stays queue rule (combination ∷ others) e = nothing-enters queue rule.commands e

rule-keeps : (queue : Commands) → queue.cancel ≡ true → (rule : RuleMeaning) → RuleKeeps (HasQueue queue) rule
rule-keeps queue e rule state h =
    ap (λ (q : Commands). queue_after q rule (combinations_on state.grid rule)) h
    ∙ queue-stays queue rule (combinations_on state.grid rule) e

rules-keep : (queue : Commands) → queue.cancel ≡ true → (rules : List RuleMeaning) →
    All (RuleKeeps (HasQueue queue)) rules
rules-keep queue e rules = All-always (RuleKeeps (HasQueue queue)) rules (rule-keeps queue e)

section-keeps : (queue : Commands) → queue.cancel ≡ true → (section : Section) → SectionKeeps (HasQueue queue) section
section-keeps queue e (Group rules) = rules-keep queue e rules
section-keeps queue e (Loop body) = All-always (All (RuleKeeps (HasQueue queue))) body (rules-keep queue e)

sections-keep : (queue : Commands) → queue.cancel ≡ true → (sections : List Section) →
    All (SectionKeeps (HasQueue queue)) sections
sections-keep queue e sections = All-always (SectionKeeps (HasQueue queue)) sections (section-keeps queue e)

pub sections_run-cancelled : SectionsKeepCancelled
sections_run-cancelled sections repeats state e =
    sections_run-keeps (HasQueue state.queue) sections repeats state (sections-keep state.queue e sections) refl

pub program_run-cancelled : ProgramsKeepCancelled
program_run-cancelled sections state e =
    program_run-keeps (HasQueue state.queue) sections state (sections-keep state.queue e sections) refl
