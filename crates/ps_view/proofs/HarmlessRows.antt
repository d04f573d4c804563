-- Rows without orders: of which all others are made.
use Rattle.std.proofs.Common.{◌≡◌, ℕ, zero, suc, ◌-◌, ◌==◌, Bool, min, true, false, cond, List, [], ◌∷◌, ◌++◌, length, take}
use Rattle.std.proofs.Common.{drop}
use Rattle.std.proofs.Common.{refl, get_or}
use Rattle.std.specs.Prelude.{nat_le}
use Rattle.std.specs.Str.{chars}
use Rattle.std.specs.Str.Lossy.{utf8_lossy}
use Rattle.std.proofs.lemmas.List.Elements.{All-nil, All-cons, All-append, All-take, All-drop, All-map}
use Rattle.ps_view.specs.HarmlessTexts.{columns_of, is_order, harmless, harmless_text}
use Rattle.ps_view.specs.Rows.{more_mark, fitting, cut, narrowed, break_of, row_before_break, rows_of_words, wrapped}
use Rattle.ps_view.specs.Rows.{shortened}
use Rattle.ps_view.specs.Corners.{part_from, frame_part, cell_width, room_across, row_part}
use Rattle.ps_view.specs.declared.corners.Corner.{Corner}
use Rattle.ps_view.specs.Bounds.{IsHarmlessRow, AreHarmlessRows}
use Rattle.ps_view.proofs.LinedUp.{lined_up_is_such}
use Rattle.ps_view.proofs.Such.{either, part_is_such}

-- a character that was made harmless is
made_harmless : (c : ℕ) (b : Bool) → is_order c ≡ b → is_order (cond b 183 c) ≡ false
made_harmless c true is = refl
made_harmless c false is = is

harmless_is : (c : ℕ) → is_order (harmless c) ≡ false
harmless_is c = made_harmless c (is_order c) refl

pub text_is_harmless : (line : List ℕ) → IsHarmlessRow (harmless_text line)
text_is_harmless line =
    All-map (λ (c : ℕ). is_order c ≡ false) harmless (chars (utf8_lossy line))
    (λ k d within. harmless_is (get_or (chars (utf8_lossy line)) k d))

-- the mark is
mark_alone : IsHarmlessRow (more_mark ∷ [])
mark_alone = All-cons (λ (c : ℕ). is_order c ≡ false) more_mark [] refl (All-nil (λ (c : ℕ). is_order c ≡ false))

none_alone : IsHarmlessRow []
none_alone = All-nil (λ (c : ℕ). is_order c ≡ false)

-- a text that is cut
pub cut_is_harmless : (columns : ℕ) (text : List ℕ) → IsHarmlessRow text → IsHarmlessRow (cut columns text)
cut_is_harmless columns text is =
    either IsHarmlessRow (fitting columns text == length text) text
    (take (fitting (columns - 1) text) text ++ more_mark ∷ [])
    is (All-append (λ (c : ℕ). is_order c ≡ false) (take (fitting (columns - 1) text) text) (more_mark ∷ [])
    (All-take (λ (c : ℕ). is_order c ≡ false) (fitting (columns - 1) text) text is) mark_alone)

-- a text that goes on in the next row
words_are_harmless : (most columns : ℕ) (text : List ℕ) → IsHarmlessRow text →
    AreHarmlessRows (rows_of_words most columns text)
words_are_harmless zero columns text is = All-nil IsHarmlessRow
words_are_harmless (suc most) columns text is =
    let P : ℕ → Type 0 = λ c. is_order c ≡ false in
    let place : ℕ = break_of columns text in
    let row : List ℕ = row_before_break columns text in
    let others : List (List ℕ) = rows_of_words most columns (drop place text) in
    elim (fitting columns text == length text) as (λ fits. AreHarmlessRows (elim fits [
      | true ↦ text ∷ []
      | false ↦ row ∷ others
    ])) [
      | true ↦ All-cons IsHarmlessRow text [] is (All-nil IsHarmlessRow)
      | false ↦ All-cons IsHarmlessRow row others (All-take P (min (fitting columns text) place) text is)
          (words_are_harmless most columns (drop place text) (All-drop P place text is))
    ]

pub wrapped_is_harmless : (columns : ℕ) (text : List ℕ) → IsHarmlessRow text → AreHarmlessRows (wrapped columns text)
wrapped_is_harmless columns text is = words_are_harmless (suc (length text)) columns text is

-- a text whose wide characters are marks
pub narrowed_is_harmless : (columns : ℕ) (text : List ℕ) → IsHarmlessRow text → IsHarmlessRow (narrowed columns text)
narrowed_is_harmless columns text is =
    let P : ℕ → Type 0 = λ c. is_order c ≡ false in
    All-map P (λ c. cond (nat_le (columns_of c) columns) c more_mark) text
    (λ k d within. either P (nat_le (columns_of (get_or text k d)) columns) (get_or text k d) more_mark (is k d within)
    refl)

-- rows that are shortened
pub shortened_are_harmless : (most : ℕ) (rows : List (List ℕ)) → AreHarmlessRows rows →
    AreHarmlessRows (shortened most rows)
shortened_are_harmless most rows are =
    either AreHarmlessRows (nat_le (length rows) most) rows
    (take (most - 2) rows ++ (more_mark ∷ []) ∷ drop (length rows - 1) rows) are
    (All-append IsHarmlessRow (take (most - 2) rows) ((more_mark ∷ []) ∷ drop (length rows - 1) rows)
    (All-take IsHarmlessRow (most - 2) rows are)
    (All-cons IsHarmlessRow (more_mark ∷ []) (drop (length rows - 1) rows) mark_alone
    (All-drop IsHarmlessRow (length rows - 1) rows are)))

-- a part of a frame
pub part_is_harmless : (rows columns : ℕ) (corner : Corner) (frame : List (List ℕ)) → AreHarmlessRows frame →
    AreHarmlessRows (frame_part rows columns corner frame)
part_is_harmless rows columns corner frame are =
    let part : List (List ℕ) = part_from rows corner.top (more_mark ∷ []) [] frame in
    let width : ℕ = cell_width frame in
    let room : ℕ = room_across columns frame in
    let P : ℕ → Type 0 = λ c. is_order c ≡ false in
    let all : AreHarmlessRows part =
    part_is_such IsHarmlessRow rows corner.top (more_mark ∷ []) [] frame mark_alone none_alone are in
    All-map IsHarmlessRow (row_part width room corner.left) part
    (λ k d within. lined_up_is_such P width (part_from room corner.left more_mark 32 (get_or part k d)) refl
    (part_is_such P room corner.left more_mark 32 (get_or part k d) refl refl (all k d within)))
