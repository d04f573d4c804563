-- The told faults of RULES, a line further.
use Rattle.std.proofs.Common.{◌≡◌, ℕ, ◌≤◌, true, false, List, [], ◌∷◌, ◌++◌, Option, Some, None, refl, sym, ap, ◌∙◌}
use Rattle.std.proofs.Common.{append_assoc}
use Rattle.std.specs.Prelude.{option_to_list}
use Rattle.std.proofs.lemmas.List.{append-nil}
use Rattle.ps_model.specs.declared.faults.Fault.{Fault}
use Rattle.ps_model.specs.declared.faults.FaultKind.TheVariants.{Loop}
use Rattle.ps_model.specs.text.Faults.{first_fault}
use Rattle.ps_model.specs.text.LineNumbers.{HasLine, here, line_at, lines_between}
use Rattle.ps_model.specs.text.Lines.{Line, is_blank_line}
use Rattle.ps_model.specs.names.Names.{Names}
use Rattle.ps_model.specs.rules.RuleFaults.{Above, above_next, faults_of_line, unclosed}
use Rattle.ps_model.specs.rules.RuleLines.{lines_with_words}
use Rattle.ps_model.specs.rules.RuleSymbols.{tokens_of}
use Rattle.ps_laws.proofs.common.LinesInOrder.{line_at-number, between-end}
use Rattle.ps_rules.specs.FormsShown.{form_at}
use Rattle.ps_rules.specs.ToldRules.{told_below}

-- the first fault of a line that is there and isn't blank, ahead of those below it
told-step : (text : List ℕ) (line : ℕ) (names : Names) (above : Above) (rest : List Line) → HasLine text line
    → (line_at text line).is_there ≡ true → is_blank_line (line_at text line) ≡ false
    → told_below names above (lines_with_words (here text line ++ rest))
    ≡ option_to_list (first_fault (faults_of_line above line (tokens_of names (line_at text line))
    (form_at text line names))) ++ told_below names (above_next above line (form_at text line names))
    (lines_with_words rest)
told-step text line names above rest there t b =
    let number : (line_at text line).number ≡ line = line_at-number text line there.0 there.1 in
    rw (t, b, number) refl

pub line-told : (text : List ℕ) (line : ℕ) (names : Names) (above next : Above) (fault : Option Fault)
    (before now : List Fault) (rest : List Line) → HasLine text line → (line_at text line).is_there ≡ true →
    is_blank_line (line_at text line) ≡ false →
    fault ≡ first_fault (faults_of_line above line (tokens_of names (line_at text line)) (form_at text line names)) →
    now ≡ before ++ option_to_list fault → next ≡ above_next above line (form_at text line names) →
    now ++ told_below names next (lines_with_words rest)
    ≡ before ++ told_below names above (lines_with_words (here text line ++ rest))
line-told text line names above next fault before now rest there t b f e n =
    ap (λ (told : List Fault). told ++ told_below names next (lines_with_words rest)) e
    ∙ append_assoc before (option_to_list fault) (told_below names next (lines_with_words rest))
    ∙ ap (λ (o : Option Fault). before ++ (option_to_list o ++ told_below names next (lines_with_words rest))) f
    ∙ ap (λ (a : Above). before ++ (option_to_list (first_fault (faults_of_line above line
    (tokens_of names (line_at text line)) (form_at text line names))) ++ told_below names a (lines_with_words rest))) n
    ∙ ap (λ (told : List Fault). before ++ told) (sym (told-step text line names above rest there t b))

-- at the end of the lines a loop may be open
pub end-told : (text : List ℕ) (names : Names) (at to : ℕ) (above : Above) (told all : List Fault)
    (loop : Option ℕ) → to ≤ at → above.loop ≡ loop →
    told ++ told_below names above (lines_with_words (lines_between text at to)) ≡ all → told ++ unclosed loop ≡ all
end-told text names at to above told all loop h same e =
    ap (λ (o : Option ℕ). told ++ unclosed o) (sym same)
    ∙ ap (λ (ls : List Line). told ++ told_below names above (lines_with_words ls)) (sym (between-end text at to h)) ∙ e
