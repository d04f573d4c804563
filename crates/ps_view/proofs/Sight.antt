-- The cell that is followed is in the part that is shown.
use Rattle.std.proofs.Common.{◌≡◌, ◌∙◌, ℕ, suc, ◌+◌, ◌-◌, ◌*◌, ◌/◌, ◌<◌, ◌≤◌, Bool, true, false, cond}
use Rattle.std.proofs.Common.{Option, Some, None, List, [], ◌∷◌, length, drop, min, get_or, arith, refl, sym, ap, subst}
use Rattle.std.specs.Prelude.{IfSome, nat_lt}
use Rattle.std.proofs.lemmas.Bool.Decides.{nat_tests}
use Rattle.std.proofs.lemmas.Grind.{common_steps}
use Rattle.std.proofs.lemmas.List.{drop-drop, get_or-drop, length-drop}
use Rattle.std.proofs.lemmas.List.Quantifiers.{position-Some}
use Rattle.ps_view.specs.declared.corners.Cell.{Cell}
use Rattle.ps_view.specs.declared.corners.Corner.{Corner}
use Rattle.ps_view.specs.Players.{shows_player, player_place, cell_at, first_cell_of, first_player_from, first_player}
use Rattle.ps_view.specs.Corners.{corner_keeping, corner_showing, kept_in, moved, room_across, row_in}
use Rattle.ps_view.specs.Corners.{shown_in}
use Rattle.ps_view.specs.Sight.{IsShown, IsInPart, PlayersAreDrawn, PlayersAreInSight}
use Rattle.ps_view.specs.Views.{rows_left}
use Rattle.ps_view.proofs.Such.{either}

-- a part that keeps an item away from its edges shows it -------------------------------------------------------------

kept_by : (size margin start last shown : ℕ) (before within : Bool) → nat_lt shown (start + margin) ≡ before →
    nat_lt (shown - (start + margin)) (size - 2 * margin) ≡ within → 2 * margin < size → start ≤ last →
    shown < last + size →
    let first : ℕ = cond before shown (cond within (start + margin) (shown - ((size - 2 * margin) - 1))) in
    (min (first - margin) last ≤ shown) × (shown < min (first - margin) last + size)
kept_by size margin start last shown true within b w few starts item =
    let low : shown < start + margin = grind (arith, nat_tests) in (omega arith, omega arith)
kept_by size margin start last shown false true b w few starts item =
    let low : start + margin ≤ shown = grind (arith, nat_tests) in
    let high : shown - (start + margin) < size - 2 * margin = grind (arith, nat_tests) in (omega arith, omega arith)
kept_by size margin start last shown false false b w few starts item =
    let low : start + margin ≤ shown = grind (arith, nat_tests) in
    let high : size - 2 * margin ≤ shown - (start + margin) = grind (arith, nat_tests) in (omega arith, omega arith)

kept_is_within : (size count place item : ℕ) → 1 ≤ size → size < count → item < count →
    let margin : ℕ = size / 4 in
    let kept : ℕ = min (moved (size - 2 * margin) (min place (count - size) + margin) item - margin) (count - size) in
    (kept ≤ item) × (item < kept + size)
kept_is_within size count place item some long is =
    let margin : ℕ = size / 4 in
    let start : ℕ = min place (count - size) in
    kept_by size margin start (count - size) item _ _ refl refl (omega (arith, some)) (omega arith)
    (omega (arith, is, long))

shown_few : (room : ℕ) → shown_in room ≤ room
shown_few room = grind (arith, common_steps, nat_tests)

shown_some : (room : ℕ) → 1 ≤ room → 1 ≤ shown_in room
shown_some room some = grind (arith, common_steps, nat_tests)

kept_is_shown : (room count place item : ℕ) → 1 ≤ room → item < count →
    IsShown room count (kept_in room count place item) item
kept_is_shown room count place item some is more =
    let few = shown_few room in
    let any = shown_some room some in
    kept_is_within (shown_in room) count place item any (omega (arith, few, more)) is

-- the cell that is followed is one of the frame -----------------------------------------------------------------------

record IsCell (frame : List (List ℕ)) (cell : Cell) : Type 0 where
  is_row : cell.row < length frame
  is_column : cell.column < length (row_in frame cell.row)

first_is_such : (P : Cell → Type 0) (upper lower : Option Cell) → IfSome upper P → IfSome lower P →
    IfSome (first_cell_of upper lower) P
first_is_such P None lower u l = l
first_is_such P (Some upper) None u l = u
first_is_such P (Some upper) (Some lower) u l =
    either (λ (cell : Option Cell). IfSome cell P) (nat_lt lower.column upper.column) (Some lower) (Some upper) l u

-- the row at a place
row_of : (frame rows : List (List ℕ)) (row : List ℕ) (number : ℕ) → drop number frame ≡ row ∷ rows →
    row_in frame number ≡ row
row_of frame rows row number is =
    let same : number + 0 ≡ number = omega arith in
    ap (row_in frame) (sym same) ∙ sym (get_or-drop number frame 0 []) ∙ ap (λ (l : List (List ℕ)). get_or l 0 []) is

place_is_cell : (frame : List (List ℕ)) (row : List ℕ) (number : ℕ) (place : Option ℕ) → number < length frame →
    row_in frame number ≡ row → IfSome place (λ column. column < length row) →
    IfSome (cell_at number place) (IsCell frame)
place_is_cell frame row number None within is below = below
place_is_cell frame row number (Some column) within is below = record { is_row = within; is_column = rw is below }

place_within : (players row : List ℕ) (place : Option ℕ) → player_place players row ≡ place →
    IfSome place (λ column. column < length row)
place_within players row None is = _
place_within players row (Some column) is = (position-Some (shows_player players) row column 0 is).0

rest_of : (frame rows : List (List ℕ)) (row : List ℕ) (number : ℕ) → drop number frame ≡ row ∷ rows →
    (drop (suc number) frame ≡ rows) × (number < length frame)
rest_of frame rows row number is =
    let next : suc number ≡ number + 1 = omega arith in
    let left : length frame - number ≡ suc (length rows) =
    sym (length-drop number frame) ∙ ap (λ (l : List (List ℕ)). length l) is in (
      ap (λ (n : ℕ). drop n frame) next ∙ sym (drop-drop 1 number frame) ∙ ap (λ (l : List (List ℕ)). drop 1 l) is,
      omega (arith, left),
    )

first_from_is_cell : (players : List ℕ) (frame : List (List ℕ)) (above : Option Cell) (number : ℕ)
    (rows : List (List ℕ)) → drop number frame ≡ rows → IfSome above (IsCell frame) →
    IfSome (first_player_from players above number rows) (IsCell frame)
first_from_is_cell players frame above number [] is such = such
first_from_is_cell players frame above number (row ∷ rows) is such =
    let rest = rest_of frame rows row number is in
    let lower : Option Cell = cell_at number (player_place players row) in
    let here : IfSome lower (IsCell frame) =
    place_is_cell frame row number (player_place players row) rest.1 (row_of frame rows row number is)
    (place_within players row _ refl) in
    first_from_is_cell players frame (first_cell_of above lower) (suc number) rows rest.0
    (first_is_such (IsCell frame) above lower such here)

first_is_cell : (players : List ℕ) (frame : List (List ℕ)) (first : Option Cell) → first_player players frame ≡ first →
    IfSome first (IsCell frame)
first_is_cell players frame first is = rw (← is) (first_from_is_cell players frame None 0 frame refl _)

-- the law -------------------------------------------------------------------------------------------------------------

keeping_shows : (rows columns : ℕ) (before : Corner) (frame : List (List ℕ)) (cell : Cell) → 1 ≤ rows →
    1 ≤ room_across columns frame → IsCell frame cell →
    IsInPart rows columns (corner_keeping rows columns before frame cell) frame cell
keeping_shows rows columns before frame cell tall wide is = record {
  is_row = is.is_row;
  is_column = is.is_column;
  row_shown = kept_is_shown rows (length frame) before.top cell.row tall is.is_row;
  column_shown = kept_is_shown (room_across columns frame) (length (row_in frame cell.row)) before.left cell.column wide
      is.is_column;
}

pub players_are_in_sight : PlayersAreInSight
players_are_in_sight players rows columns before frame changed cell tall wide is =
    let there : IsCell frame cell = first_is_cell players frame (Some cell) is in
    let motive : Option Cell → Type 0 = λ first. IsInPart rows columns (elim first [
      | Some followed ↦ corner_keeping rows columns before frame followed
      | None ↦ corner_showing rows columns before frame changed
    ]) frame cell in
    subst motive (sym is) (keeping_shows rows columns before frame cell tall wide there)

pub players_are_drawn : PlayersAreDrawn
players_are_drawn view cell tall wide is =
    players_are_in_sight view.game.players (rows_left view) view.size.columns view.corner view.frame view.changed cell
    tall wide is
