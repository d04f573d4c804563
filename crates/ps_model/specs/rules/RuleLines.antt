-- The lines of RULES: what each of them is, and the rules and loops that they give. `startloop` and `endloop` stand
-- alone on their lines; each other line is a rule.
use Rattle.std.specs.Prelude.{not, Option, Some, None, List, [], ◌∷◌, filter}
use Rattle.std.specs.List.{filter_map}
use Rattle.ps_model.specs.text.Lines.{Line, is_blank_line}
use Rattle.ps_model.specs.names.Names.{Names}
use Rattle.ps_model.specs.rules.SourceRules.{SourceRule, RuleLine, Rule, LoopStart, LoopEnd}
use Rattle.ps_model.specs.rules.RuleSymbols.{Symbol, StartsLoop, EndsLoop, Token, tokens_of, tokens_kept}
use Rattle.ps_model.specs.rules.RuleShape.{RuleShape, shape_of}
use Rattle.ps_model.specs.rules.RuleTree.{rule_of}

-- what a line of RULES is: the start or the end of a loop, a rule by its shape and its tree, or none of these
pub data LineForm : Type 0 where
  StartForm : LineForm
  EndForm : LineForm
  RuleForm : RuleShape → SourceRule → LineForm
  NoForm : LineForm

-- a line of that shape
abbrev pub form_of_shape : Line → Option RuleShape → LineForm
form_of_shape line None = NoForm
form_of_shape line (Some shape) = RuleForm shape (rule_of line shape)

-- a line of these words, the first of which is that
abbrev pub form_of_words : Line → Symbol → List Token → LineForm
form_of_words line StartsLoop (only ∷ []) = StartForm
form_of_words line EndsLoop (only ∷ []) = EndForm
form_of_words line first tokens = form_of_shape line (shape_of tokens)

-- a line of these words
abbrev pub form_of : Line → List Token → LineForm
form_of line [] = NoForm
form_of line (first ∷ tokens) = form_of_words line first.symbol (first ∷ tokens)

-- what a line gives
abbrev pub line_of_form : LineForm → Option RuleLine
line_of_form StartForm = Some LoopStart
line_of_form EndForm = Some LoopEnd
line_of_form (RuleForm shape rule) = Some (Rule rule)
line_of_form NoForm = None

-- the lines that aren't blank
abbrev pub lines_with_words : List Line → List Line
lines_with_words lines = filter (λ line. not (is_blank_line line)) lines

-- the rules and loops of lines; a line that is none of them gives nothing
abbrev pub rules_read : Names → List Line → List RuleLine
rules_read names lines = filter_map (λ line. line_of_form (form_of line (tokens_kept (tokens_of names line))))
    (lines_with_words lines)
