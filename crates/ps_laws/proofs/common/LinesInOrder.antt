-- What holds of the lines of each text: they are numbered from 1 on, and each stands in the section of the line above,
-- but for headers, which never begin the prelude.
use Rattle.std.proofs.Common.{◌≡◌, ℕ, zero, suc, ◌+◌, ◌-◌, ◌<◌, ◌≤◌, Bool, true, false, cond, List, [], ◌∷◌, ◌++◌}
use Rattle.std.proofs.Common.{length, drop, get_or, Option, None, Some, refl, sym, ap, ◌∙◌, arith}
use Rattle.std.specs.Prelude.{⊤, if◌then◌else◌, unwrap_or, is_some}
use Rattle.std.specs.List.{slice_split}
use Rattle.std.specs.Map.{lookup}
use Rattle.std.specs.Str.{bytes_eq}
use Rattle.std.proofs.Math.Seq.{drop-cons}
use Rattle.std.proofs.lemmas.List.Splits.{length-slice_split}
use Rattle.ps_model.specs.declared.texts.Section.{Section}
use Rattle.ps_model.specs.declared.texts.Section.TheVariants.{Prelude}
use Rattle.ps_model.specs.declared.texts.Cut.TheVariants.{Blanks}
use Rattle.ps_model.specs.text.Lines.{Line, is_line_feed, mark_length, as_lines, raw_lines, headers, header_of}
use Rattle.ps_model.specs.text.Lines.{header_of_words, folded, without_comments, text_place, depth_below, lines_from}
use Rattle.ps_model.specs.text.Lines.{lines_of}
use Rattle.ps_model.specs.text.LineNumbers.{no_line, line_at, lines_between, here}
use Rattle.ps_model.specs.text.Sections.{rank}
use Rattle.ps_model.specs.text.Words.{word_texts}

-- a line below one of that section
pub record IsBelow (above : Section) (line : Line) : Type 0 where
  pub plain : line.is_header ≡ false → line.section ≡ above
  pub header : line.is_header ≡ true → 1 ≤ rank line.section

-- lines numbered from a number on, below a line of that section
abbrev pub AreInOrder : ℕ → Section → List Line → Type 0
AreInOrder number above [] = ⊤
AreInOrder number above (line ∷ lines) = (line.number ≡ number) ×
    (IsBelow above line × AreInOrder (suc number) line.section lines)

-- headers begin later sections than the prelude
abbrev AreLater : List (List ℕ × Section) → Type 0
AreLater [] = ⊤
AreLater (entry ∷ entries) = (1 ≤ rank entry.1) × AreLater entries

later_by : (test : List ℕ → Bool) (entry : List ℕ × Section) (entries : List (List ℕ × Section)) (section : Section)
    (passes : Bool) → 1 ≤ rank entry.1 → (lookup test entries ≡ Some section → 1 ≤ rank section) →
    cond passes (Some entry.1) (lookup test entries) ≡ Some section → 1 ≤ rank section
later_by test entry entries section true l ih e = let same : entry.1 ≡ section = cc in rw (← same) l
later_by test entry entries section false l ih e = ih e

later : (test : List ℕ → Bool) (entries : List (List ℕ × Section)) (section : Section) → AreLater entries →
    lookup test entries ≡ Some section → 1 ≤ rank section
later test [] section all e = absurd (let h = e in cc)
later test (entry ∷ entries) section all e = later_by test entry entries section (test entry.0) all.0
    (later test entries section all.1) e

later_headers : AreLater headers
later_headers = (
  omega arith,
  (
    omega arith,
    (
      omega arith,
      (omega arith, (omega arith, (omega arith, (omega arith, tt)))),
    ),
  ),
)

later_words : (words : List (List ℕ)) (section : Section) → header_of_words words ≡ Some section → 1 ≤ rank section
later_words [] section e = absurd (let h = e in cc)
later_words (word ∷ []) section e = later (bytes_eq (folded word)) headers section later_headers e
later_words (word ∷ next ∷ words) section e = absurd (let h = e in cc)

below_by : (above : Section) (line : Line) (header : Option Section) →
    ((section : Section) → header ≡ Some section → 1 ≤ rank section) → line.section ≡ unwrap_or header above →
    line.is_header ≡ is_some header → IsBelow above line
below_by above line None later s h = record {
  plain = λ e. s;
  header = λ e.
      absurd (let k : true ≡ false = sym e ∙ h in cc);
}
below_by above line (Some section) later s h =
    record { plain = λ e. absurd (let k : true ≡ false = sym h ∙ e in cc); header = λ e. rw s (later section refl) }

-- the lines of any text
pub in_order_from : (number start depth : ℕ) (above : Section) (raws : List (List ℕ)) →
    AreInOrder number above (lines_from number start depth above raws)
in_order_from number start depth above [] = tt
in_order_from number start depth above (raw ∷ others) =
    let plain : List ℕ = without_comments depth raw in
    let section : Section = unwrap_or (header_of plain) above in (
      refl,
      (
        below_by above _ (header_of plain) (λ section e. later_words (word_texts Blanks plain) section e) refl refl,
        in_order_from (suc number) (start + length raw + 1) (depth_below section (text_place section plain) depth raw)
            section others,
      ),
    )

pub in_order : (text : List ℕ) → AreInOrder 1 Prelude (lines_of text)
in_order text = in_order_from 1 (mark_length text) 0 Prelude (raw_lines (drop (mark_length text) text))

-- numbers -------------------------------------------------------------------------------------------------------------

numbered : (number : ℕ) (above : Section) (lines : List Line) (i : ℕ) → AreInOrder number above lines →
    i < length lines → (get_or lines i no_line).number ≡ number + i
numbered number above [] i o h = absurd (omega arith)
numbered number above (line ∷ lines) zero o h = o.0 ∙ omega arith
numbered number above (line ∷ lines) (suc i) o h = let further : suc number + i ≡ number + suc i = omega arith in
    numbered (suc number) line.section lines i o.1.1 (omega arith) ∙ further

-- the line of a number has that number
pub line_at-number : (text : List ℕ) (number : ℕ) → 1 ≤ number → number ≤ length (lines_of text) →
    (line_at text number).number ≡ number
line_at-number text number low high = let first : 1 + (number - 1) ≡ number = omega arith in
    numbered 1 Prelude (lines_of text) (number - 1) (in_order text) (omega arith) ∙ first

-- a line for each piece
length-lines_from : (number start depth : ℕ) (above : Section) (pieces : List (List ℕ)) →
    length (lines_from number start depth above pieces) ≡ length pieces
length-lines_from number start depth above [] = refl
length-lines_from number start depth above (raw ∷ others) =
    let plain : List ℕ = without_comments depth raw in
    let section : Section = unwrap_or (header_of plain) above in
    ap suc (length-lines_from (suc number) (start + length raw + 1)
    (depth_below section (text_place section plain) depth raw) section others)

some_line : (pieces : List (List ℕ)) → 0 < length pieces → 0 < length (as_lines pieces)
some_line [] h = h
some_line (first ∷ others) h = omega arith

-- there is a line
pub length-lines_of-some : (text : List ℕ) → 0 < length (lines_of text)
length-lines_of-some text =
    let rest : List ℕ = drop (mark_length text) text in
    let pieces : 0 < length (slice_split is_line_feed rest) = omega (arith, length-slice_split is_line_feed rest) in
    omega (
      arith,
      length-lines_from 1 (mark_length text) 0 Prelude (raw_lines rest),
      some_line (slice_split is_line_feed rest) pieces,
    )

-- lines between two numbers -------------------------------------------------------------------------------------------

pub here-there : (text : List ℕ) (line : ℕ) → (line_at text line).is_there ≡ true →
    here text line ≡ line_at text line ∷ []
here-there text line e = rw e refl

pub here-not : (text : List ℕ) (line : ℕ) → (line_at text line).is_there ≡ false → here text line ≡ []
here-not text line e = rw e refl

pub one_more : (b : Bool) (x : Line) (xs : List Line) → cond b (x ∷ xs) xs ≡ (if b then x ∷ [] else []) ++ xs
one_more true x xs = refl
one_more false x xs = refl

-- the line of a number stands first among those from it on
pub between-step : (text : List ℕ) (line next end : ℕ) → 1 ≤ line → line < end → end ≤ length (lines_of text) + 1 →
    next ≡ line + 1
    → lines_between text line end ≡ here text line ++ lines_between text next end
between-step text line next end one less within e =
    let count : end - line ≡ suc (end - next) = omega arith in
    let place : next - 1 ≡ suc (line - 1) = omega arith in
    let first : drop (line - 1) (lines_of text) ≡ line_at text line ∷ drop (next - 1) (lines_of text) =
    rw place (drop-cons (lines_of text) (line - 1) no_line (omega arith)) in
    rw (count, first) (one_more ((line_at text line).is_there) (line_at text line) (lines_between text next end))

pub between-end : (text : List ℕ) (line end : ℕ) → end ≤ line → lines_between text line end ≡ []
between-end text line end past = let none : end - line ≡ 0 = omega arith in rw none refl
