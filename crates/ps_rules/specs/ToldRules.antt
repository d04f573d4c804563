-- The faults of RULES that are told together: the first of each line, in the order of the lines; then a loop without
-- its end, at the line of its start.
use Rattle.std.specs.Prelude.{List, [], ◌∷◌, ◌++◌, option_to_list}
use Rattle.ps_model.specs.declared.faults.Fault.{Fault}
use Rattle.ps_model.specs.text.Faults.{first_fault}
use Rattle.ps_model.specs.text.Lines.{Line}
use Rattle.ps_model.specs.names.Names.{Names}
use Rattle.ps_model.specs.rules.RuleFaults.{Above, nothing_above, above_next, faults_of_line, unclosed}
use Rattle.ps_model.specs.rules.RuleLines.{LineForm, form_of, lines_with_words}
use Rattle.ps_model.specs.rules.RuleSymbols.{Token, tokens_of, tokens_kept}

-- those of lines that aren't blank, below what stands above
abbrev pub told_below : Names → Above → List Line → List Fault
told_below names above [] = unclosed above.loop
told_below names above (line ∷ lines) =
    let tokens : List Token = tokens_of names line in
    let form : LineForm = form_of line (tokens_kept tokens) in
    option_to_list (first_fault (faults_of_line above line.number tokens form)) ++ told_below names
    (above_next above line.number form) lines

-- those of the lines of RULES
abbrev pub told_rules : Names → List Line → List Fault
told_rules names lines = told_below names nothing_above (lines_with_words lines)
