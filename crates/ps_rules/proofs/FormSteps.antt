-- What a line of RULES is, by its words.
use Rattle.std.proofs.Common.{◌≡◌, ℕ, List, [], ◌∷◌, Some, None, false, refl}
use Rattle.ps_model.specs.text.Lines.{Line}
use Rattle.ps_model.specs.rules.RuleLines.{LineForm, StartForm, EndForm, RuleForm, NoForm, form_of, form_of_words}
use Rattle.ps_model.specs.rules.RuleLines.{form_of_shape, line_of_form}
use Rattle.ps_model.specs.rules.RuleShape.{shape_of}
use Rattle.ps_model.specs.rules.RuleFaults.{Above, above_next, faults_of_form, faults_of_count, faults_of_line}
use Rattle.ps_model.specs.rules.RuleFaults.{has_left_out}
use Rattle.ps_model.specs.rules.RuleSymbols.{Symbol, Open, Close, Bar, Arrow, Ellipsis, Plus, Late, Without, Moves}
use Rattle.ps_model.specs.rules.RuleSymbols.{Asks, StartsLoop, EndsLoop, LeftOut, Called, Unknown, Token}
use Rattle.ps_model.specs.rules.SourceRules.{RuleLine, Rule, LoopStart, LoopEnd, SourceRule}
use Rattle.ps_rules.specs.declared.lines.LoopMark.{LoopMark}
use Rattle.ps_rules.specs.declared.lines.LoopMark.TheVariants.{Start, End}
use Rattle.ps_rules.specs.FormsShown.{loop_mark_of, mark_of, form_of_mark, below_line, count_faults}

alone-unmarked : (line : Line) (symbol : Symbol) (at : ℕ) → mark_of symbol ≡ None
    → form_of line (record { at = at; symbol = symbol } ∷ []) ≡ form_of_shape line
    (shape_of (record { at = at; symbol = symbol } ∷ []))
alone-unmarked line Open at e = refl
alone-unmarked line Close at e = refl
alone-unmarked line Bar at e = refl
alone-unmarked line Arrow at e = refl
alone-unmarked line Ellipsis at e = refl
alone-unmarked line Plus at e = refl
alone-unmarked line Late at e = refl
alone-unmarked line Without at e = refl
alone-unmarked line (Moves w) at e = refl
alone-unmarked line (Asks a) at e = refl
alone-unmarked line StartsLoop at e = cc
alone-unmarked line EndsLoop at e = cc
alone-unmarked line LeftOut at e = refl
alone-unmarked line (Called m) at e = refl
alone-unmarked line Unknown at e = refl

alone-marked : (line : Line) (symbol : Symbol) (at : ℕ) (mark : LoopMark) → mark_of symbol ≡ Some mark
    → form_of line (record { at = at; symbol = symbol } ∷ []) ≡ form_of_mark mark
alone-marked line Open at mark e = cc
alone-marked line Close at mark e = cc
alone-marked line Bar at mark e = cc
alone-marked line Arrow at mark e = cc
alone-marked line Ellipsis at mark e = cc
alone-marked line Plus at mark e = cc
alone-marked line Late at mark e = cc
alone-marked line Without at mark e = cc
alone-marked line (Moves w) at mark e = cc
alone-marked line (Asks a) at mark e = cc
alone-marked line StartsLoop at Start e = refl
alone-marked line StartsLoop at End e = cc
alone-marked line EndsLoop at Start e = cc
alone-marked line EndsLoop at End e = refl
alone-marked line LeftOut at mark e = cc
alone-marked line (Called m) at mark e = cc
alone-marked line Unknown at mark e = cc

several : (line : Line) (symbol : Symbol) (first second : Token) (tokens : List Token)
    → form_of_words line symbol (first ∷ second ∷ tokens) ≡ form_of_shape line (shape_of (first ∷ second ∷ tokens))
several line Open first second tokens = refl
several line Close first second tokens = refl
several line Bar first second tokens = refl
several line Arrow first second tokens = refl
several line Ellipsis first second tokens = refl
several line Plus first second tokens = refl
several line Late first second tokens = refl
several line Without first second tokens = refl
several line (Moves w) first second tokens = refl
several line (Asks a) first second tokens = refl
several line StartsLoop first second tokens = refl
several line EndsLoop first second tokens = refl
several line LeftOut first second tokens = refl
several line (Called m) first second tokens = refl
several line Unknown first second tokens = refl

pub marked_form : (line : Line) (tokens : List Token) (mark : LoopMark) → loop_mark_of tokens ≡ Some mark →
    form_of line tokens ≡ form_of_mark mark
marked_form line [] mark e = cc
marked_form line (only ∷ []) mark e = alone-marked line only.symbol only.at mark e
marked_form line (first ∷ second ∷ tokens) mark e = cc

pub unmarked_form : (line : Line) (tokens : List Token) → loop_mark_of tokens ≡ None →
    form_of line tokens ≡ form_of_shape line (shape_of tokens)
unmarked_form line [] e = refl
unmarked_form line (only ∷ []) e = alone-unmarked line only.symbol only.at e
unmarked_form line (first ∷ second ∷ tokens) e = several line first.symbol first second tokens

-- what stands below a line of a form is what stands below what it gives
rule-of-line : (rule other : SourceRule) → Some (Rule rule) ≡ Some (Rule other) → rule ≡ other
rule-of-line rule other e = cc

pub next-of-form : (above : Above) (line : ℕ) (form : LineForm) (made : RuleLine) → line_of_form form ≡ Some made →
    below_line above line made ≡ above_next above line form
next-of-form above line StartForm (Rule rule) e = cc
next-of-form above line StartForm LoopStart e = refl
next-of-form above line StartForm LoopEnd e = cc
next-of-form above line EndForm (Rule rule) e = cc
next-of-form above line EndForm LoopStart e = cc
next-of-form above line EndForm LoopEnd e = refl
next-of-form above line (RuleForm shape other) (Rule rule) e = let same : other ≡ rule = rule-of-line other rule e in
    rw same refl
next-of-form above line (RuleForm shape other) LoopStart e = cc
next-of-form above line (RuleForm shape other) LoopEnd e = cc
next-of-form above line NoForm made e = cc

pub count-of-form : (above : Above) (line : ℕ) (form : LineForm) (made : RuleLine) → line_of_form form ≡ Some made →
    count_faults above line made ≡ faults_of_count above line form
count-of-form above line StartForm (Rule rule) e = cc
count-of-form above line StartForm LoopStart e = refl
count-of-form above line StartForm LoopEnd e = cc
count-of-form above line EndForm (Rule rule) e = cc
count-of-form above line EndForm LoopStart e = cc
count-of-form above line EndForm LoopEnd e = refl
count-of-form above line (RuleForm shape other) (Rule rule) e = refl
count-of-form above line (RuleForm shape other) LoopStart e = cc
count-of-form above line (RuleForm shape other) LoopEnd e = cc
count-of-form above line NoForm made e = cc

-- a line without a fault of its form and without a word that is left out has the faults of its count alone
pub line-count : (above : Above) (line : ℕ) (tokens : List Token) (form : LineForm) →
    faults_of_form above line form ≡ [] → has_left_out tokens ≡ false
    → faults_of_line above line tokens form ≡ faults_of_count above line form
line-count above line tokens form e l = rw (e, l) refl
