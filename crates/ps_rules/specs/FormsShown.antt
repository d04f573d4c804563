-- Loop lines by their words.
use Rattle.std.specs.Prelude.{ℕ, List, [], ◌∷◌, Option, Some, None}
use Rattle.ps_model.specs.rules.RuleSymbols.{Symbol, StartsLoop, EndsLoop, Token, tokens_of, tokens_kept}
use Rattle.ps_model.specs.declared.faults.Fault.{Fault}
use Rattle.ps_model.specs.declared.faults.FaultKind.TheVariants.{TooManyRules}
use Rattle.ps_model.specs.text.Faults.{when}
use Rattle.ps_model.specs.text.LineNumbers.{line_at}
use Rattle.ps_model.specs.names.Names.{Names}
use Rattle.ps_model.specs.rules.RuleFaults.{Above, is_one_too_many}
use Rattle.ps_model.specs.rules.RuleLines.{LineForm, StartForm, EndForm, form_of}
use Rattle.ps_model.specs.rules.SourceRules.{RuleLine, Rule, LoopStart, LoopEnd}
use Rattle.ps_rules.specs.AboveShown.{below_rule, below_start, below_end}
use Rattle.ps_rules.specs.RulesShown.{line_shown}
use Rattle.ps_rules.specs.declared.lines.LoopMark.{LoopMark}
use Rattle.ps_rules.specs.declared.lines.LoopMark.TheVariants.{Start, End}
use Rattle.ps_rules.specs.declared.tree.RuleLine as code

-- the loop line of a word that stands alone
abbrev pub mark_of : Symbol → Option LoopMark
mark_of StartsLoop = Some Start
mark_of EndsLoop = Some End
mark_of other = None

-- the loop line of words, if they are one
abbrev pub loop_mark_of : List Token → Option LoopMark
loop_mark_of [] = None
loop_mark_of (only ∷ []) = mark_of only.symbol
loop_mark_of (first ∷ second ∷ tokens) = None

-- what a loop line is
abbrev pub form_of_mark : LoopMark → LineForm
form_of_mark Start = StartForm
form_of_mark End = EndForm

-- what the line of a number is
abbrev pub form_at : List ℕ → ℕ → Names → LineForm
form_at text line names = form_of (line_at text line) (tokens_kept (tokens_of names (line_at text line)))

-- a line that is made, as what a form gives that gives one
abbrev pub line_made : code.RuleLine → Option RuleLine
line_made made = Some (line_shown made)

-- what stands below a line
abbrev pub below_line : Above → ℕ → RuleLine → Above
below_line above line (Rule rule) = below_rule above rule.late
below_line above line LoopStart = below_start above line
below_line above line LoopEnd = below_end above

-- a rule over the limit
abbrev pub count_faults : Above → ℕ → RuleLine → List Fault
count_faults above line (Rule rule) = when (is_one_too_many above) TooManyRules line
count_faults above line LoopStart = []
count_faults above line LoopEnd = []
