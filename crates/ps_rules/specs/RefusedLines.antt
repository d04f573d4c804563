-- A line that is refused.
use Rattle.std.specs.Prelude.{ℕ, ◌≡◌, true, false, List, Some}
use Rattle.ps_model.specs.declared.faults.Fault.{Fault}
use Rattle.ps_model.specs.text.Faults.{first_fault}
use Rattle.ps_model.specs.text.LineNumbers.{line_at}
use Rattle.ps_model.specs.text.Lines.{is_blank_line}
use Rattle.ps_model.specs.names.Names.{Names}
use Rattle.ps_model.specs.rules.RuleFaults.{Above, faults_of_line}
use Rattle.ps_model.specs.rules.RuleSymbols.{tokens_of}
use Rattle.ps_rules.specs.FormsShown.{form_at}

-- the line of that number is there and isn't blank, and the fault is its first
pub record IsRefused (text : List ℕ) (line : ℕ) (names : Names) (above : Above) (fault : Fault) : Type 0 where
  pub there : (line_at text line).is_there ≡ true
  pub written : is_blank_line (line_at text line) ≡ false
  pub told : first_fault (faults_of_line above line (tokens_of names (line_at text line)) (form_at text line names)) ≡
      Some fault
