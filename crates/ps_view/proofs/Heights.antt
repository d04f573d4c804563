-- How many rows a screen has.
use Rattle.std.proofs.Common.{◌≡◌, ℕ, ◌-◌, ◌/◌, ◌≤◌, ◌==◌, Bool, true, false, cond, List, [], ◌∷◌, ◌++◌, length}
use Rattle.std.proofs.Common.{refl, arith}
use Rattle.std.specs.Prelude.{nat_le}
use Rattle.std.proofs.lemmas.Bool.Decides.{nat_tests}
use Rattle.std.proofs.lemmas.Grind.{common_steps}
use Rattle.std.proofs.lemmas.List.{length-append, length-map}
use Rattle.ps_view.specs.declared.corners.Corner.{Corner}
use Rattle.ps_view.specs.HarmlessTexts.{harmless_text}
use Rattle.ps_view.specs.RowShares.{has_lines, most_news}
use Rattle.ps_view.specs.Rows.{cut, narrowed, shortened, wrapped}
use Rattle.ps_view.specs.Corners.{part_from, frame_part}
use Rattle.ps_view.specs.Screens.{LinesBelow, line_rows, rows_below, news_rows}
use Rattle.ps_view.specs.Bounds.{ScreensFit}

-- rows that are shortened are as few as they may be
shortened_few : (most : ℕ) (rows : List (List ℕ)) → 2 ≤ most → length (shortened most rows) ≤ most
shortened_few most rows some = grind (arith, common_steps, nat_tests)

-- a part has room
pub part_few : {A : Type 0} (room place : ℕ) (mark blank : A) (items : List A) →
    length (part_from room place mark blank items) ≤ room
part_few room place mark blank items = grind (arith, common_steps, nat_tests)

frame_few : (rows columns : ℕ) (corner : Corner) (frame : List (List ℕ)) →
    length (frame_part rows columns corner frame) ≤ rows
frame_few rows columns corner frame = rw length-map (part_few rows corner.top _ [] frame)

-- what is told last takes as many rows as it may at most, and it may take some
some_by : (rows : ℕ) (tall : Bool) → nat_le 8 rows ≡ tall → 1 ≤ rows → 1 ≤ cond tall (rows - 6) (rows - rows / 2)
some_by rows true is some = let lines : 8 ≤ rows = grind (arith, nat_tests) in omega (arith, lines)
some_by rows false is some = omega (arith, some)

few_by : (most : ℕ) (row : List ℕ) (rows : List (List ℕ)) (one : Bool) → (most == 1) ≡ one → 1 ≤ most →
    length (cond one (row ∷ []) (shortened most rows)) ≤ most
few_by most row rows true is some = omega (arith, some)
few_by most row rows false is some =
    let two : 2 ≤ most = grind (arith, nat_tests) in shortened_few most rows two

news_few : (rows columns : ℕ) (news : List ℕ) → 1 ≤ rows → length (news_rows rows columns news) ≤ most_news rows
news_few rows columns news some =
    let text : List ℕ = harmless_text news in
    few_by (most_news rows) (cut columns text) (wrapped columns (narrowed columns text)) _ refl
    (some_by rows _ refl some)

-- so there is a place for all that stands below a frame
below_by : (rows : ℕ) (tall : Bool) (lines news : List (List ℕ)) (is_empty : Bool) → nat_le 8 rows ≡ tall →
    length lines ≡ 3 → length news ≤ cond tall (rows - 6) (rows - rows / 2) →
    length (cond tall (lines ++ news) (cond is_empty [] news)) ≤ rows
below_by rows true lines news is_empty is three few =
    let some : 8 ≤ rows = grind (arith, nat_tests) in
    rw (length-append lines news) (omega (arith, some, three, few))
below_by rows false lines news true is three few = omega arith
below_by rows false lines news false is three few = omega (arith, few)

below_few : (rows columns : ℕ) (told : LinesBelow) → 1 ≤ rows → length (rows_below rows columns told) ≤ rows
unfolding rows_below
below_few rows columns told some =
    below_by rows (has_lines rows) (line_rows columns told) (news_rows rows columns told.news) (length told.news == 0)
    refl (omega arith) (news_few rows columns told.news some)

pub screens_fit : ScreensFit
screens_fit size corner frame told =
    let below : List (List ℕ) = rows_below size.rows size.columns told in
    let few = below_few size.rows size.columns told size.tall in
    let part = frame_few (size.rows - length below) size.columns corner frame in
    rw (length-append (frame_part (size.rows - length below) size.columns corner frame) below)
    (omega (arith, few, part))
