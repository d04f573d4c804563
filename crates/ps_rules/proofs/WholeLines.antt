-- The rows of the rules that are read from lines without faults are whole.
use Rattle.std.proofs.Common.{◌≡◌, ℕ, ◌≤◌, None, List, [], ◌++◌, sym, ap, ◌∙◌, subst}
use Rattle.std.specs.Prelude.{All}
use Rattle.std.proofs.lemmas.List.{append-nil}
use Rattle.ps_model.specs.text.LineNumbers.{lines_between}
use Rattle.ps_model.specs.text.Lines.{Line}
use Rattle.ps_model.specs.names.Names.{Names}
use Rattle.ps_model.specs.rules.SourceRules.{RuleLine}
use Rattle.ps_model.specs.rules.RuleFaults.{Above, unclosed, rule_faults, faults_below}
use Rattle.ps_model.specs.rules.RuleLines.{rules_read, lines_with_words}
use Rattle.ps_laws.specs.WholeRows.{IsWholeLine}
use Rattle.ps_laws.proofs.texts.RulesInParts.{rules_read-whole}
use Rattle.ps_laws.proofs.common.LinesInOrder.{between-end}

-- at the end of lines without faults, outside of loops, the lines that are made are whole
pub made-whole : (text : List ℕ) (names : Names) (from at to : ℕ) (above : Above) (made : List RuleLine) → to ≤ at →
    above.loop ≡ None →
    made ++ rules_read names (lines_between text at to) ≡ rules_read names (lines_between text from to) →
    faults_below names above (lines_with_words (lines_between text at to)) ≡ rule_faults names
    (lines_between text from to) → All IsWholeLine made
made-whole text names from at to above made h closed read faults =
    let left : lines_between text at to ≡ [] = between-end text at to h in
    let all : made ≡ rules_read names (lines_between text from to) =
    sym (append-nil made) ∙ sym (ap (λ (rest : List Line). made ++ rules_read names rest) left) ∙ read in
    let none : rule_faults names (lines_between text from to) ≡ [] =
    sym faults ∙ ap (λ (rest : List Line). faults_below names above (lines_with_words rest)) left
    ∙ ap unclosed closed in
    subst (λ (lines : List RuleLine). All IsWholeLine lines) (sym all)
    (rules_read-whole names (lines_between text from to) none)
