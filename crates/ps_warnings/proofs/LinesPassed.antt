-- What comes of lines, a line further.
use Rattle.std.proofs.Common.{◌≡◌, ◌∙◌, ◌++◌, ◌+◌, ◌<◌, ◌≤◌, ℕ, List, length, true, refl, sym, ap, append_assoc}
use Rattle.std.specs.List.{flat_map}
use Rattle.std.proofs.lemmas.Grind.{flat_map-append}
use Rattle.std.proofs.lemmas.List.{append-nil}
use Rattle.ps_model.specs.text.Lines.{Line, lines_of}
use Rattle.ps_model.specs.text.LineNumbers.{here, line_at, lines_between}
use Rattle.ps_laws.proofs.common.LinesInOrder.{between-step, between-end, here-there}

-- a line is passed by, and what comes of it is added
pub passed : {X : Type 0} (made : Line → List X) (text : List ℕ) (line end : ℕ) (before after whole : List X) →
    1 ≤ line → line < end → end ≤ length (lines_of text) + 1 → after ≡ before ++ flat_map made (here text line) →
    before ++ flat_map made (lines_between text line end) ≡ whole →
    after ++ flat_map made (lines_between text (line + 1) end) ≡ whole
passed {X} made text line end before after whole one less within e was =
    let rest : List Line = lines_between text (line + 1) end in
    ap (λ (xs : List X). xs ++ flat_map made rest) e
    ∙ append_assoc before (flat_map made (here text line)) (flat_map made rest)
    ∙ ap (λ (xs : List X). before ++ xs)
    (sym (flat_map-append made (here text line) rest)
    ∙ sym (ap (flat_map made) (between-step text line (line + 1) end one less within refl)))
    ∙ was

-- where what comes of lines depends on those above: the next line stands first of those from it on
pub stepped : {S X : Type 0} (told : S → List Line → List X) (text : List ℕ) (line end : ℕ) (state next : S)
    (before after whole : List X) → 1 ≤ line → line < end → end ≤ length (lines_of text) + 1 →
    ((rest : List Line) → after ++ told next rest ≡ before ++ told state (here text line ++ rest)) →
    before ++ told state (lines_between text line end) ≡ whole →
    after ++ told next (lines_between text (line + 1) end) ≡ whole
stepped {S} {X} told text line end state next before after whole one less within step was =
    step (lines_between text (line + 1) end)
    ∙ sym (ap (λ (lines : List Line). before ++ told state lines)
    (between-step text line (line + 1) end one less within refl))
    ∙ was

-- no line is left
pub all_passed : {X : Type 0} (made : Line → List X) (text : List ℕ) (line end : ℕ) (told whole : List X) →
    end ≤ line → told ++ flat_map made (lines_between text line end) ≡ whole → told ≡ whole
all_passed {X} made text line end told whole past was =
    sym (ap (λ (lines : List Line). told ++ flat_map made lines) (between-end text line end past) ∙ append-nil told) ∙ was

-- what comes of a line that is there
pub made_here : {X : Type 0} (made : Line → List X) (text : List ℕ) (line : ℕ) → (line_at text line).is_there ≡ true →
    flat_map made (here text line) ≡ made (line_at text line)
made_here made text line there =
    ap (flat_map made) (here-there text line there) ∙ append-nil (made (line_at text line))
