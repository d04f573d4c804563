-- The headers of a text, line by line.
use Rattle.std.proofs.Common.{◌≡◌, ℕ, suc, ◌+◌, ◌-◌, ◌≤◌, Bool, true, false, List, ◌∷◌, length, drop, refl, arith}
use Rattle.std.specs.Prelude.{◌||◌}
use Rattle.std.proofs.Math.Seq.{drop-cons}
use Rattle.ps_model.specs.declared.texts.Section.{Section}
use Rattle.ps_model.specs.text.Lines.{Line, lines_of}
use Rattle.ps_model.specs.text.LineNumbers.{no_line, line_at}
use Rattle.ps_model.specs.text.Sections.{header_lines, has_section}
use Rattle.ps_causes.specs.Causes.{begins}

by_header : (section : Section) (line : Line) (others : List Line) (header : Bool) → line.is_header ≡ header →
    has_section (header_lines (line ∷ others)) section ≡
    (begins section line || has_section (header_lines others) section)
by_header section line others true e = rw e refl
by_header section line others false e = rw e refl

-- a section has a header among the lines from a number on, or that line is it
pub headers-step : (text : List ℕ) (section : Section) (line next : ℕ) → 1 ≤ line → line ≤ length (lines_of text) →
    next ≡ line + 1 →
    has_section (header_lines (drop (line - 1) (lines_of text))) section ≡
    (begins section (line_at text line) || has_section (header_lines (drop (next - 1) (lines_of text))) section)
headers-step text section line next one within e =
    let place : next - 1 ≡ suc (line - 1) = omega arith in
    let first : drop (line - 1) (lines_of text) ≡ line_at text line ∷ drop (next - 1) (lines_of text) =
    rw place (drop-cons (lines_of text) (line - 1) no_line (omega arith)) in
    rw first (by_header section (line_at text line) (drop (next - 1) (lines_of text)) _ refl)
