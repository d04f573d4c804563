-- One line of OBJECTS more.
use Rattle.std.proofs.Common.{◌≡◌, ℕ, suc, ◌+◌, ◌-◌, ◌<◌, true, false, List, [], ◌∷◌, ◌++◌, length, drop, take, get_or}
use Rattle.std.proofs.Common.{sym, ap, ◌∙◌, arith, append_assoc}
use Rattle.std.specs.List.{prefix_len}
use Rattle.std.proofs.Math.Seq.{drop-cons}
use Rattle.ps_model.specs.text.LineNumbers.{line_at}
use Rattle.ps_model.specs.names.ObjectLines.{ObjectText, is_sprite_row, lines_below, objects_below}
use Rattle.ps_model.specs.text.Lines.{is_blank_line, words_of_line}
use Rattle.ps_names.specs.LinesThere.{lines_at}

-- the rows of a sprite that has `rows`, where these lines are left
abbrev pub rows_with : ℕ → List ℕ → List ℕ → ℕ
rows_with rows text lines = rows + prefix_len is_sprite_row (take (5 - rows) (lines_at text lines))

pub row-step : (text lines : List ℕ) (rows k next line d : ℕ) → k < length lines → next ≡ suc k →
    line ≡ get_or lines k d → rows < 5
    → is_sprite_row (line_at text line) ≡ true →
    rows_with (rows + 1) text (drop next lines) ≡ rows_with rows text (drop k lines)
row-step text lines rows k next line d less n e few is =
    let count : 5 - rows ≡ suc (5 - (rows + 1)) = omega arith in
    rw (n, drop-cons lines k d less, ← e, count, is) (omega arith)

pub row-stop : (text lines : List ℕ) (rows k line d : ℕ) → k < length lines → line ≡ get_or lines k d → rows < 5
    → is_sprite_row (line_at text line) ≡ false → rows_with rows text (drop k lines) ≡ rows
row-stop text lines rows k line d less e few is =
    let count : 5 - rows ≡ suc (5 - (rows + 1)) = omega arith in
    rw (drop-cons lines k d less, ← e, count, is) (omega arith)

-- an object more
pub object-step : (text lines : List ℕ) (d : ℕ) (made added : List ObjectText) (words : List (List ℕ))
    (line above below : ℕ) → 0 < length lines → line ≡ get_or lines 0 d → above ≡ 0
    → is_blank_line (line_at text line) ≡ false → (line_at text line).number ≡ line →
    words ≡ words_of_line (line_at text line) → below ≡ lines_below (lines_at text (drop 1 lines))
    → added ≡ made ++ (record { line = line; words = words; below = below }) ∷ []
    → added ++ objects_below below (lines_at text (drop 1 lines)) ≡ made ++ objects_below above (lines_at text lines)
object-step text lines d made added words line above below less e none blank number w b a =
    let first : lines ≡ line ∷ drop 1 lines = drop-cons lines 0 d less ∙ ap (λ x. x ∷ drop 1 lines) (sym e) in
    rw (a, none, ap (lines_at text) first, blank, number, ← w, ← b)
    (append_assoc made ((record { line = line; words = words; below = below }) ∷ [])
    (objects_below below (lines_at text (drop 1 lines))))
