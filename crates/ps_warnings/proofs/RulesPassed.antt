-- Lines of RULES, a line further.
use Rattle.std.proofs.Common.{◌≡◌, ◌≢◌, ◌∙◌, ◌++◌, ◌≤◌, ℕ, Bool, true, false, cond, List, [], ◌∷◌, Option, drop, filter}
use Rattle.std.proofs.Common.{length, map, refl, sym, ap, ap₂, append_assoc, arith}
use Rattle.std.specs.Prelude.{◌&&◌, not}
use Rattle.std.proofs.lemmas.List.{append-nil, length-map}
use Rattle.ps_model.specs.declared.texts.Cut.TheVariants.{Rule}
use Rattle.ps_model.specs.text.Lines.{Line, is_blank_line, lines_of, taken_bytes}
use Rattle.ps_model.specs.text.LineNumbers.{here, line_at, lines_between}
use Rattle.ps_laws.proofs.common.LinesInOrder.{between-end, here-there, line_at-number}
use Rattle.ps_text.specs.WordViews.{text_of, texts_under}
use Rattle.ps_text.specs.declared.cutting.Word.{Word}
use Rattle.ps_warnings.specs.declared.kinds.Warning.{Warning}
use Rattle.ps_warnings.specs.Sounds.{is_same}
use Rattle.ps_warnings.specs.RepeatedRules.{WrittenRule, group_with, same_words, twice_below, twin_of, warned_of_twin}
use Rattle.ps_warnings.specs.RepeatedRules.{written_rule, written_rules}

-- words ---------------------------------------------------------------------------------------------------------------

pub words_behind : (words : List Word) → map text_of (drop 1 words) ≡ drop 1 (map text_of words)
words_behind [] = refl
words_behind (word ∷ words) = refl

and_false : (b : Bool) → (b && false) ≡ false
and_false true = refl
and_false false = refl

-- of other lengths
pub other_lengths : (words others : List (List ℕ)) → length words ≢ length others → same_words words others ≡ false
other_lengths [] [] n = absurd (n refl)
other_lengths [] (other ∷ others) n = refl
other_lengths (word ∷ words) [] n = refl
other_lengths (word ∷ words) (other ∷ others) n =
    ap (λ (rest : Bool). is_same word other && rest)
    (other_lengths words others (omega arith))
    ∙ and_false (is_same word other)

pub other_counts : (words others : List Word) → length words ≢ length others →
    false ≡ same_words (map text_of words) (map text_of others)
other_counts words others n =
    sym (other_lengths (map text_of words) (map text_of others)
    (λ e. n (sym (length-map words text_of) ∙ e ∙ length-map others text_of)))

-- lines ---------------------------------------------------------------------------------------------------------------

-- a rule by its parts
abbrev made_of : ℕ → List (List ℕ) → List ℕ → WrittenRule
made_of number words message = record { number = number; words = words; message = message }

pub rule_made : (text : List ℕ) (line : ℕ) (words : List (List ℕ)) (message : List ℕ) → 1 ≤ line →
    line ≤ length (lines_of text) → words ≡ texts_under Rule (line_at text line).bytes →
    message ≡ taken_bytes (line_at text line) → made_of line words message ≡ written_rule (line_at text line)
rule_made text line words message low high w m =
    ap (λ (number : ℕ). made_of number words message) (sym (line_at-number text line low high))
    ∙ ap₂ (made_of (line_at text line).number) w m

-- those that aren't blank
abbrev kept : List Line → List Line
kept lines = filter (λ line. not (is_blank_line line)) lines

abbrev written_by : Bool → Line → List Line → List WrittenRule
written_by blank line rest = map written_rule (cond (not blank) (line ∷ kept rest) (kept rest))

-- a blank line
pub blank_here : (text : List ℕ) (line : ℕ) (above : List WrittenRule) (told : List Warning) →
    (line_at text line).is_there ≡ true → is_blank_line (line_at text line) ≡ true → (rest : List Line) →
    told ++ twice_below above (written_rules rest) ≡ told ++ twice_below above (written_rules (here text line ++ rest))
blank_here text line above told there blank rest =
    ap (λ (rules : List WrittenRule). told ++ twice_below above rules)
    (sym (ap (λ (lines : List Line). written_rules (lines ++ rest)) (here-there text line there)
    ∙ ap (λ (b : Bool). written_by b (line_at text line) rest) blank))

-- a rule
pub rule_here : (text : List ℕ) (line : ℕ) (above next : List WrittenRule) (rule : WrittenRule) (twin : Option ℕ)
    (before after : List Warning) → 1 ≤ line → line ≤ length (lines_of text) →
    (line_at text line).is_there ≡ true → is_blank_line (line_at text line) ≡ false →
    rule ≡ written_rule (line_at text line) → twin ≡ twin_of rule above → after ≡ before ++ warned_of_twin line twin →
    next ≡ group_with above rule → (rest : List Line) →
    after ++ twice_below next (written_rules rest)
    ≡ before ++ twice_below above (written_rules (here text line ++ rest))
rule_here text line above next rule twin before after low high there blank r t a n rest =
    let own : WrittenRule = written_rule (line_at text line) in
    let first : warned_of_twin line twin ≡ warned_of_twin own.number (twin_of own above) =
    ap₂ warned_of_twin (sym (line_at-number text line low high))
    (t ∙ ap (λ (one : WrittenRule). twin_of one above) r) in
    let group : next ≡ group_with above own = n ∙ ap (group_with above) r in
    ap₂ (λ (told : List Warning) (rules : List WrittenRule). told ++ twice_below rules (written_rules rest)) a group
    ∙ append_assoc before (warned_of_twin line twin) (twice_below (group_with above own) (written_rules rest))
    ∙ ap (λ (told : List Warning). before ++ (told ++ twice_below (group_with above own) (written_rules rest))) first
    ∙ ap (λ (rules : List WrittenRule). before ++ twice_below above rules)
    (sym (ap (λ (lines : List Line). written_rules (lines ++ rest)) (here-there text line there)
    ∙ ap (λ (b : Bool). written_by b (line_at text line) rest) blank))

-- no line is left
pub all_rules_passed : (text : List ℕ) (line end : ℕ) (above : List WrittenRule) (told whole : List Warning) →
    end ≤ line → told ++ twice_below above (written_rules (lines_between text line end)) ≡ whole → told ≡ whole
all_rules_passed text line end above told whole past was =
    sym (ap (λ (lines : List Line). told ++ twice_below above (written_rules lines)) (between-end text line end past)
    ∙ append-nil told)
    ∙ was
