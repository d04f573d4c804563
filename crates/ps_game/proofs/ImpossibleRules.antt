-- The first rule of which no reading is possible, rule by rule.
use Rattle.std.proofs.Common.{◌≡◌, ◌∙◌, Bool, true, false, not, Option, Some, List, ◌∷◌, ◌++◌, sym, ap}
use Rattle.ps_model.specs.declared.faults.Fault.{Fault}
use Rattle.ps_model.specs.declared.faults.FaultKind.TheVariants.{Impossible}
use Rattle.ps_model.specs.text.Faults.{first_fault, when}
use Rattle.ps_model.specs.names.Names.{Names}
use Rattle.ps_model.specs.rules.SourceRules.{SourceRule}
use Rattle.ps_model.specs.meaning.ReadingMeanings.{has_possible}
use Rattle.ps_model.specs.rules.ReadingFaults.{impossible_rules}

-- the fault of a rule, and of those after it
abbrev first_told : Names → SourceRule → List SourceRule → Bool → Option Fault
first_told names rule rules possible = first_fault
    (when (not possible) Impossible rule.line ++ impossible_rules names rules)

-- an impossible rule is told, whatever comes after it
pub told_here : (names : Names) (rule : SourceRule) (rules all : List SourceRule) (first : Option Fault) →
    all ≡ rule ∷ rules → has_possible names rule ≡ false → first_fault (impossible_rules names all) ≡ first →
    Some (record { kind = Impossible; line = rule.line }) ≡ first
told_here names rule rules all first e none before =
    sym (ap (first_told names rule rules) none)
    ∙ sym (ap (λ (rs : List SourceRule). first_fault (impossible_rules names rs)) e)
    ∙ before

-- a rule that is possible leaves it to those after it
pub told_behind : (names : Names) (rule : SourceRule) (rules all : List SourceRule) (first : Option Fault) →
    all ≡ rule ∷ rules → has_possible names rule ≡ true → first_fault (impossible_rules names all) ≡ first →
    first_fault (impossible_rules names rules) ≡ first
told_behind names rule rules all first e some before =
    sym (ap (first_told names rule rules) some)
    ∙ sym (ap (λ (rs : List SourceRule). first_fault (impossible_rules names rs)) e)
    ∙ before
