-- The lines of a section, one by one.
use Rattle.std.proofs.Common.{◌≡◌, ℕ, suc, ◌+◌, ◌-◌, ◌<◌, ◌≤◌, Bool, false, List, [], ◌∷◌, ◌++◌, length}
use Rattle.std.proofs.Common.{drop, refl, ap, ◌∙◌, arith}
use Rattle.std.specs.Prelude.{◌||◌}
use Rattle.std.specs.List.{list_any}
use Rattle.std.proofs.Math.Seq.{drop-cons}
use Rattle.std.proofs.lemmas.List.{drop_all}
use Rattle.std.proofs.lemmas.List.Folds.{list_any-append}
use Rattle.ps_model.specs.declared.texts.Section.{Section}
use Rattle.ps_model.specs.text.Lines.{Line, lines_of}
use Rattle.ps_model.specs.text.LineNumbers.{no_line, line_at}
use Rattle.ps_laws.proofs.common.LinesInOrder.{one_more}
use Rattle.ps_facts.specs.NamesShown.{is_own, own_line, own_lines_from}

-- the line of a number comes first among those from it on
pub own-step : (text : List ℕ) (section : Section) (line next : ℕ) → 1 ≤ line → line ≤ length (lines_of text) →
    next ≡ line + 1 → own_lines_from text section line ≡ own_line section (line_at text line) ++ own_lines_from text
    section next
own-step text section line next one within e =
    let place : next - 1 ≡ suc (line - 1) = omega arith in
    let first : drop (line - 1) (lines_of text) ≡ line_at text line ∷ drop (next - 1) (lines_of text) =
    rw place (drop-cons (lines_of text) (line - 1) no_line (omega arith)) in
    rw first (one_more (is_own section (line_at text line)) (line_at text line) (own_lines_from text section next))

-- after the last line there is none
pub own-end : (text : List ℕ) (section : Section) (line : ℕ) → length (lines_of text) < line →
    own_lines_from text section line ≡ []
own-end text section line h = rw (drop_all (line - 1) (lines_of text) (omega arith)) refl

-- a test that the lines in front don't pass
pub any-behind : (test : Line → Bool) (front behind : List Line) → list_any test front ≡ false →
    list_any test (front ++ behind) ≡ list_any test behind
any-behind test front behind e = list_any-append test front behind ∙ ap (λ (b : Bool). b || list_any test behind) e
