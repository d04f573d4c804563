-- The warnings of a line of RULES by its words, and of a line of LEVELS.
use Rattle.std.proofs.Common.{◌≡◌, ◌∙◌, ◌++◌, ℕ, Bool, List, true, ap, ap₂, sym, append_assoc}
use Rattle.std.specs.List.{flat_map}
use Rattle.ps_model.specs.declared.texts.Cut.TheVariants.{Rule}
use Rattle.ps_model.specs.text.Lines.{Line}
use Rattle.ps_model.specs.text.LineNumbers.{here, line_at}
use Rattle.ps_text.specs.WordViews.{texts_under}
use Rattle.ps_warnings.specs.declared.kinds.Warning.{Warning}
use Rattle.ps_warnings.specs.declared.kinds.WarningKind.TheVariants.{LateTwice, NoText}
use Rattle.ps_warnings.specs.WordWarnings.{are_late_twice, is_empty_text, warned_if, warnings_of_message}
use Rattle.ps_warnings.specs.WordWarnings.{warnings_of_words}
use Rattle.ps_warnings.proofs.LinesPassed.{made_here}

-- both of the warnings of a line of RULES
pub words_told : (text : List ℕ) (line : ℕ) (late textless : Bool) (told first : List Warning) →
    (line_at text line).is_there ≡ true → line ≡ (line_at text line).number →
    late ≡ are_late_twice (texts_under Rule (line_at text line).bytes) →
    textless ≡ is_empty_text (line_at text line).taken → first ≡ told ++ warned_if late LateTwice line →
    first ++ warned_if textless NoText line ≡ told ++ flat_map warnings_of_words (here text line)
words_told text line late textless told first there number l e f =
    let own : Line = line_at text line in
    let at : ℕ → List Warning = λ n.
    warned_if (are_late_twice (texts_under Rule own.bytes)) LateTwice n ++ warned_if (is_empty_text own.taken) NoText n in
    let both : warned_if late LateTwice line ++ warned_if textless NoText line ≡ warnings_of_words own =
    ap₂ (λ (x y : Bool). warned_if x LateTwice line ++ warned_if y NoText line) l e ∙ ap at number in
    ap (λ (xs : List Warning). xs ++ warned_if textless NoText line) f
    ∙ append_assoc told (warned_if late LateTwice line) (warned_if textless NoText line)
    ∙ ap (λ (xs : List Warning). told ++ xs) (both ∙ sym (made_here warnings_of_words text line there))

-- that of a line of LEVELS
pub message_told : (text : List ℕ) (line : ℕ) (textless : Bool) → (line_at text line).is_there ≡ true →
    line ≡ (line_at text line).number → textless ≡ is_empty_text (line_at text line).taken →
    warned_if textless NoText line ≡ flat_map warnings_of_message (here text line)
message_told text line textless there number e =
    ap₂ (λ (x : Bool) (n : ℕ). warned_if x NoText n) e number
    ∙ sym (made_here warnings_of_message text line there)
