-- How many columns the rows of a screen cover.
use Rattle.std.proofs.Common.{◌≡◌, ℕ, zero, suc, min, ◌+◌, ◌-◌, ◌*◌, ◌/◌, ◌≤◌, Bool, true, false, cond}
use Rattle.std.proofs.Common.{List, [], ◌∷◌, ◌++◌, length, take, drop, fold, max, replicate, refl, subst}
use Rattle.std.proofs.Common.{arith, ◌==◌, get_or}
use Rattle.std.specs.Prelude.{All, nat_le}
use Rattle.std.proofs.Math.Nat.{div-mul-le_self, mul-le-mul_right}
use Rattle.std.proofs.lemmas.Bool.Decides.{nat_tests}
use Rattle.std.proofs.lemmas.List.{take_all}
use Rattle.std.proofs.lemmas.List.Elements.{All-nil, All-cons, All-append, All-take, All-drop, All-map}
use Rattle.unicode_width.proofs.Computing.{unicode_width}
use Rattle.ps_view.specs.declared.corners.Corner.{Corner}
use Rattle.ps_view.specs.HarmlessTexts.{columns_of, harmless_text}
use Rattle.ps_view.specs.Rows.{more_mark, fitting, cut, narrowed, break_of, row_before_break, rows_of_words, wrapped}
use Rattle.ps_view.specs.Rows.{shortened}
use Rattle.ps_view.specs.Corners.{part_from, frame_part, in_cell, lined_up, room_across, row_part, widest, cell_width}
use Rattle.ps_view.specs.Screens.{LinesBelow, level_line, keys_line, line_rows, news_rows, rows_below}
use Rattle.ps_view.specs.RowShares.{has_lines, most_news}
use Rattle.ps_view.specs.Bounds.{covered, RowsFit}
use Rattle.ps_view.proofs.Such.{first_of, others_of, either, part_is_such}
use Rattle.ps_view.proofs.Heights.{part_few}

-- characters ----------------------------------------------------------------------------------------------------------

-- the mark and a blank cover one
mark_covers : columns_of more_mark ≡ 1
unfolding unicode_width
mark_covers = refl

blank_covers : columns_of 32 ≡ 1
unfolding unicode_width
blank_covers = refl

-- rows ----------------------------------------------------------------------------------------------------------------

covered-append : (first second : List ℕ) → covered (first ++ second) ≡ covered first + covered second
covered-append [] second = omega arith
covered-append (c ∷ first) second =
    let rest : covered (first ++ second) ≡ covered first + covered second = covered-append first second in
    omega (arith, rest)

-- the characters that fit into so many columns cover no more
fitted_by : (columns c : ℕ) (text : List ℕ) (fits : Bool) → nat_le (columns_of c) columns ≡ fits →
    covered (take (fitting (columns - columns_of c) text) text) ≤ columns - columns_of c →
    covered (take (elim fits [ true ↦ suc (fitting (columns - columns_of c) text) | false ↦ 0 ]) (c ∷ text)) ≤ columns
fitted_by columns c text true is rest =
    let room : columns_of c ≤ columns = grind (arith, nat_tests) in omega (arith, room, rest)
fitted_by columns c text false is rest = omega arith

fitted : (columns : ℕ) (text : List ℕ) → covered (take (fitting columns text) text) ≤ columns
fitted columns [] = omega arith
fitted columns (c ∷ text) = fitted_by columns c text _ refl (fitted (columns - columns_of c) text)

-- a text that is cut
cut_by : (columns : ℕ) (text : List ℕ) (whole : Bool) → (fitting columns text == length text) ≡ whole → 1 ≤ columns →
    covered (cond whole text (take (fitting (columns - 1) text) text ++ more_mark ∷ [])) ≤ columns
cut_by columns text true is some =
    let all : length text ≤ fitting columns text = grind (arith, nat_tests) in
    let within : List ℕ → Type 0 = λ row. covered row ≤ columns in
    subst within (take_all (fitting columns text) text all) (fitted columns text)
cut_by columns text false is some =
    let first : covered (take (fitting (columns - 1) text) text) ≤ columns - 1 = fitted (columns - 1) text in
    let both = covered-append (take (fitting (columns - 1) text) text) (more_mark ∷ []) in
    let mark = mark_covers in
    omega (arith, first, both, mark, some)

cut_fits : (columns : ℕ) (text : List ℕ) → 1 ≤ columns → covered (cut columns text) ≤ columns
cut_fits columns text some = cut_by columns text _ refl some

-- fewer characters cover no more
covered_fewer : (n m : ℕ) (text : List ℕ) → n ≤ m → covered (take n text) ≤ covered (take m text)
covered_fewer zero m text few = omega arith
covered_fewer (suc n) zero text few = absurd (omega arith)
covered_fewer (suc n) (suc m) [] few = omega arith
covered_fewer (suc n) (suc m) (c ∷ text) few =
    let rest = covered_fewer n m text (omega arith) in omega (arith, rest)

-- a text that goes on in the next row
words_fit : (most columns : ℕ) (text : List ℕ) → All (λ row. covered row ≤ columns) (rows_of_words most columns text)
words_fit zero columns text = All-nil (λ (row : List ℕ). covered row ≤ columns)
words_fit (suc most) columns text =
    let within : List ℕ → Type 0 = λ row. covered row ≤ columns in
    let room : ℕ = fitting columns text in
    let row : List ℕ = row_before_break columns text in
    let others : List (List ℕ) = rows_of_words most columns (drop (break_of columns text) text) in
    let first : covered (take room text) ≤ columns = fitted columns text in
    let by_test : (fits : Bool) → (room == length text) ≡ fits → All within (elim fits [
      | true ↦ text ∷ []
      | false ↦ row ∷ others
    ]) = λ fits. elim fits as (λ v. (room == length text) ≡ v → All within (elim v [
      | true ↦ text ∷ []
      | false ↦ row ∷ others
    ])) [
      | true ↦ λ is.
          let all : length text ≤ room = grind (arith, nat_tests) in
          All-cons within text [] (subst within (take_all room text all) first) (All-nil within)
      | false ↦ λ is.
          let fewer = covered_fewer (min room (break_of columns text)) room text (omega arith) in
          All-cons within row others (omega (arith, fewer, first))
          (words_fit most columns (drop (break_of columns text) text))
    ] in
    by_test _ refl

wrapped_fits : (columns : ℕ) (text : List ℕ) → All (λ row. covered row ≤ columns) (wrapped columns text)
wrapped_fits columns text = words_fit (suc (length text)) columns text

-- rows that are shortened
shortened_fit : (columns most : ℕ) (rows : List (List ℕ)) → 1 ≤ columns → All (λ row. covered row ≤ columns) rows →
    All (λ row. covered row ≤ columns) (shortened most rows)
shortened_fit columns most rows some fit =
    let within : List ℕ → Type 0 = λ row. covered row ≤ columns in
    let mark = mark_covers in
    either (All within) (nat_le (length rows) most) rows
    (take (most - 2) rows ++ (more_mark ∷ []) ∷ drop (length rows - 1) rows) fit
    (All-append within (take (most - 2) rows) ((more_mark ∷ []) ∷ drop (length rows - 1) rows)
    (All-take within (most - 2) rows fit)
    (All-cons within (more_mark ∷ []) (drop (length rows - 1) rows) (omega (arith, mark, some))
    (All-drop within (length rows - 1) rows fit)))

-- frames --------------------------------------------------------------------------------------------------------------

-- the widest character of a row is as wide as each, and as the one before
widest_least : (least : ℕ) (row : List ℕ) → least ≤ widest least row
widest_least least [] = omega arith
widest_least least (c ∷ row) =
    let more = widest_least (max least (columns_of c)) row in omega (arith, more)

widest_all : (least : ℕ) (row : List ℕ) → All (λ c. columns_of c ≤ widest least row) row
widest_all least [] = All-nil (λ (c : ℕ). columns_of c ≤ least)
widest_all least (c ∷ row) =
    let next : ℕ = max least (columns_of c) in
    let more = widest_least next row in
    All-cons (λ (c : ℕ). columns_of c ≤ widest next row) c row (omega (arith, more)) (widest_all next row)

width_least : (least : ℕ) (frame : List (List ℕ)) → least ≤ fold widest least frame
width_least least [] = omega arith
width_least least (row ∷ frame) =
    let one = widest_least least row in
    let more = width_least (widest least row) frame in omega (arith, one, more)

width_all : (least : ℕ) (frame : List (List ℕ)) →
    All (λ row. All (λ c. columns_of c ≤ fold widest least frame) row) frame
width_all least [] = All-nil (λ (row : List ℕ). All (λ c. columns_of c ≤ least) row)
width_all least (row ∷ frame) =
    let next : ℕ = widest least row in
    let most : ℕ = fold widest next frame in
    let more : next ≤ most = width_least next frame in
    let one : All (λ c. columns_of c ≤ next) row = widest_all least row in
    All-cons (λ (row : List ℕ). All (λ c. columns_of c ≤ most) row) row frame
    (λ k d within. let this = one k d within in omega (arith, this, more)) (width_all next frame)

-- blanks cover a column each
covered_blanks : (count : ℕ) → covered (replicate count 32) ≡ count
covered_blanks zero = refl
covered_blanks (suc count) =
    let rest = covered_blanks count in
    let blank = blank_covers in omega (arith, rest, blank)

-- cells of characters that are no wider than that
covered_few : (width : ℕ) (row : List ℕ) → 1 ≤ width → All (λ c. columns_of c ≤ width) row →
    covered (lined_up width row) ≤ length row * width
covered_few width [] some all = omega arith
covered_few width (c ∷ row) some all =
    let one = first_of (λ (c : ℕ). columns_of c ≤ width) c row all in
    let rest = covered_few width row some (others_of (λ (c : ℕ). columns_of c ≤ width) c row all) in
    let both = covered-append (in_cell width c) (lined_up width row) in
    let blanks = covered_blanks (width - max 1 (columns_of c)) in
    let n : suc (length row) * width ≡ width + length row * width = omega arith in
    omega (arith, one, rest, both, blanks, n, some)

-- a part of a row
row_part_fits : (columns width left : ℕ) (row : List ℕ) → 1 ≤ width →
    All (λ c. columns_of c ≤ width) row → covered (row_part width (columns / width) left row) ≤ columns
row_part_fits columns width left row some all =
    let shown : List ℕ = part_from (columns / width) left more_mark 32 row in
    let mark = mark_covers in
    let blank = blank_covers in
    let narrow : All (λ c. columns_of c ≤ width) shown =
    part_is_such (λ (c : ℕ). columns_of c ≤ width) (columns / width) left more_mark 32 row (omega (arith, mark, some))
    (omega (arith, blank, some)) all in
    let few = covered_few width shown some narrow in
    let short : length shown ≤ columns / width = part_few (columns / width) left more_mark 32 row in
    let product : length shown * width ≤ columns / width * width = mul-le-mul_right width short in
    let whole = div-mul-le_self columns width in
    omega (arith, few, product, whole)

frame_fits : (rows columns : ℕ) (corner : Corner) (frame : List (List ℕ)) →
    All (λ row. covered row ≤ columns) (frame_part rows columns corner frame)
frame_fits rows columns corner frame =
    let width : ℕ = cell_width frame in
    let one : 1 ≤ width = width_least 1 frame in
    let mark = mark_covers in
    let narrow : List ℕ → Type 0 = λ row. All (λ c. columns_of c ≤ width) row in
    let part : List (List ℕ) = part_from rows corner.top (more_mark ∷ []) [] frame in
    let none : narrow [] = All-nil (λ (c : ℕ). columns_of c ≤ width) in
    let marked : narrow (more_mark ∷ []) =
    All-cons (λ (c : ℕ). columns_of c ≤ width) more_mark [] (omega (arith, mark, one)) none in
    let all : All narrow part = part_is_such narrow rows corner.top (more_mark ∷ []) [] frame marked none
    (width_all 1 frame) in
    All-map (λ (row : List ℕ). covered row ≤ columns)
    (row_part width (room_across columns frame) corner.left) part
    (λ k d within. row_part_fits columns width corner.left (get_or part k d) one
    (all k d within))

-- screens -------------------------------------------------------------------------------------------------------------

-- what is told last
news_fit : (rows columns : ℕ) (news : List ℕ) → 1 ≤ columns →
    All (λ row. covered row ≤ columns) (news_rows rows columns news)
news_fit rows columns news some =
    let within : List ℕ → Type 0 = λ row. covered row ≤ columns in
    let text : List ℕ = harmless_text news in
    let most : ℕ = most_news rows in
    let all : List (List ℕ) = wrapped columns (narrowed columns text) in
    either (All within) (most == 1) (cut columns text ∷ []) (shortened most all)
    (All-cons within (cut columns text) [] (cut_fits columns text some) (All-nil within))
    (shortened_fit columns most all some (wrapped_fits columns (narrowed columns text)))

lines_fit : (columns : ℕ) (told : LinesBelow) → 1 ≤ columns → All (λ row. covered row ≤ columns) (line_rows columns told)
lines_fit columns told some =
    let within : List ℕ → Type 0 = λ row. covered row ≤ columns in
    let line : List ℕ → List ℕ = λ bytes. cut columns (harmless_text bytes) in
    let level : List ℕ = level_line told.level told.note in
    let keys : List ℕ = keys_line told.heard in
    All-cons within (line told.title) (line level ∷ line keys ∷ []) (cut_fits columns (harmless_text told.title) some)
    (All-cons within (line level) (line keys ∷ []) (cut_fits columns (harmless_text level) some)
    (All-cons within (line keys) [] (cut_fits columns (harmless_text keys) some) (All-nil within)))

below_fits : (rows columns : ℕ) (told : LinesBelow) → 1 ≤ columns →
    All (λ row. covered row ≤ columns) (rows_below rows columns told)
unfolding rows_below
below_fits rows columns told some =
    let within : List ℕ → Type 0 = λ row. covered row ≤ columns in
    let lines : List (List ℕ) = line_rows columns told in
    let news : List (List ℕ) = news_rows rows columns told.news in
    let last : All within news = news_fit rows columns told.news some in
    either (All within) (has_lines rows) (lines ++ news) (cond (length told.news == 0) [] news)
    (All-append within lines news (lines_fit columns told some) last)
    (either (All within) (length told.news == 0) [] news (All-nil within) last)

pub rows_fit : RowsFit
rows_fit size corner frame told =
    let columns : ℕ = size.columns in
    let within : List ℕ → Type 0 = λ row. covered row ≤ columns in
    let below : List (List ℕ) = rows_below size.rows size.columns told in
    All-append within (frame_part (size.rows - length below) columns corner frame) below
    (frame_fits (size.rows - length below) columns corner frame) (below_fits size.rows size.columns told size.wide)
