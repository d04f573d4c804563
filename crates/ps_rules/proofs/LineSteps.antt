-- One line of RULES more.
use Rattle.std.proofs.Common.{◌≡◌, ℕ, true, false, List, [], ◌∷◌, ◌++◌, Some, refl, ap, ◌∙◌, append_assoc}
use Rattle.std.proofs.lemmas.List.{map-append}
use Rattle.ps_model.specs.declared.faults.Fault.{Fault}
use Rattle.ps_model.specs.text.LineNumbers.{HasLine, here, line_at}
use Rattle.ps_model.specs.text.Lines.{Line, is_blank_line}
use Rattle.ps_model.specs.names.Names.{Names}
use Rattle.ps_model.specs.rules.RuleFaults.{Above, above_next, faults_of_line, faults_below}
use Rattle.ps_model.specs.rules.RuleLines.{lines_with_words, rules_read, line_of_form}
use Rattle.ps_model.specs.rules.SourceRules.{RuleLine}
use Rattle.ps_model.specs.rules.RuleSymbols.{tokens_of}
use Rattle.ps_laws.proofs.common.FirstFaults.{first-front}
use Rattle.ps_rules.specs.FormsShown.{form_at}
use Rattle.ps_rules.specs.RefusedLines.{IsRefused}
use Rattle.ps_rules.specs.RulesShown.{line_shown, lines_shown}
use Rattle.ps_rules.specs.declared.tree.RuleLine.{RuleLine as CodeLine}
use Rattle.ps_model.specs.text.Faults.{first_fault}
use Rattle.ps_laws.proofs.common.LinesInOrder.{line_at-number}

pub below-step : (text : List ℕ) (line : ℕ) (names : Names) (above : Above) (rest : List Line) → HasLine text line
    → (line_at text line).is_there ≡ true → is_blank_line (line_at text line) ≡ false
    → faults_below names above (lines_with_words (here text line ++ rest))
    ≡ faults_of_line above line (tokens_of names (line_at text line)) (form_at text line names) ++ faults_below names
    (above_next above line (form_at text line names)) (lines_with_words rest)
below-step text line names above rest there t b =
    let number : (line_at text line).number ≡ line = line_at-number text line there.0 there.1 in
    rw (t, b, number) refl

pub refused-step : (text : List ℕ) (line : ℕ) (names : Names) (above : Above) (rest : List Line) (fault : Fault) →
    HasLine text line
    → IsRefused text line names above fault → first_fault
    (faults_below names above (lines_with_words (here text line ++ rest))) ≡ Some fault
refused-step text line names above rest fault there own =
    ap first_fault (below-step text line names above rest there own.there own.written)
    ∙ first-front (faults_of_line above line (tokens_of names (line_at text line)) (form_at text line names)) _ fault
    own.told

-- where no line is, nothing stands ahead of the rest
pub nothing-here : (text : List ℕ) (line : ℕ) (rest : List Line) → (line_at text line).is_there ≡ false
    → here text line ++ rest ≡ rest
nothing-here text line rest t = rw t refl

-- a blank line is skipped
pub blank-here : (text : List ℕ) (line : ℕ) (rest : List Line) → (line_at text line).is_there ≡ true
    → is_blank_line (line_at text line) ≡ true → lines_with_words (here text line ++ rest) ≡ lines_with_words rest
blank-here text line rest t b = rw (t, b) refl

pub blank-rules : (text : List ℕ) (line : ℕ) (names : Names) (rest : List Line) → (line_at text line).is_there ≡ true
    → is_blank_line (line_at text line) ≡ true → rules_read names (here text line ++ rest) ≡ rules_read names rest
blank-rules text line names rest t b = rw (t, b) refl

-- a line that gives one is read ahead of the rest
pub rules-step : (text : List ℕ) (line : ℕ) (names : Names) (rest : List Line) (made : RuleLine) →
    (line_at text line).is_there ≡ true → is_blank_line (line_at text line) ≡ false
    → line_of_form (form_at text line names) ≡ Some made
    → rules_read names (here text line ++ rest) ≡ made ∷ rules_read names rest
rules-step text line names rest made t b e = rw (t, b, e) refl

-- a line that is kept stands after those before
pub line-kept : (lines : List CodeLine) (line : CodeLine) (others : List RuleLine) →
    lines_shown (lines ++ line ∷ []) ++ others ≡ lines_shown lines ++ (line_shown line ∷ others)
line-kept lines line others =
    ap (λ (ls : List RuleLine). ls ++ others) (map-append line_shown lines (line ∷ []))
    ∙ append_assoc (lines_shown lines) (line_shown line ∷ []) others
