-- Rows of frames, one row further.
use Rattle.std.proofs.Common.{◌≡◌, ◌∙◌, ℕ, suc, ◌+◌, ◌<◌, Option, None, List, [], ◌∷◌}
use Rattle.std.proofs.Common.{◌++◌, length, take, drop, map, fold, get_or, max, append_assoc, sym, ap, subst, arith}
use Rattle.std.specs.Global.{Global}
use Rattle.std.specs.declared.rc.Rc.{Rc}
use Rattle.std.proofs.lemmas.List.{drop-map, drop_more, get_or-map, length-map, map-append, take_more}
use Rattle.std.specs.List.{take-map}
use Rattle.std.proofs.lemmas.List.Sums.{fold-append}
use Rattle.ps_view.specs.declared.corners.Cell.{Cell}
use Rattle.ps_view.specs.declared.frame_rows.FrameRow.{FrameRow}
use Rattle.ps_view.specs.Corners.{widest}
use Rattle.ps_view.specs.Frames.{AreRowsFor, texts_of}
use Rattle.ps_view.specs.HarmlessTexts.{columns_of}
use Rattle.ps_view.specs.Players.{cell_at, first_cell_of, first_player_from, player_place}

-- there are as many texts as rows
pub texts_count : (rows : List (Rc FrameRow Global)) → length (texts_of rows) ≡ length rows
texts_count rows = length-map rows (λ row. row.value.text)

-- the text of the row at a place
pub text_at : (rows : List (Rc FrameRow Global)) (place : ℕ) (row : Rc FrameRow Global) → place < length rows →
    row ≡ get_or rows place row → get_or (texts_of rows) place [] ≡ row.value.text
text_at rows place row within is =
    get_or-map (λ (r : Rc FrameRow Global). r.value.text) rows place row [] within
    ∙ ap (λ (r : Rc FrameRow Global). r.value.text) (sym is)

-- the texts from a place on
pub texts_from : (rows : List (Rc FrameRow Global)) (place : ℕ) (row : Rc FrameRow Global) → place < length rows →
    row ≡ get_or rows place row →
    drop place (texts_of rows) ≡ row.value.text ∷ drop (place + 1) (texts_of rows)
texts_from rows place row within is =
    let count = texts_count rows in
    drop_more (texts_of rows) place [] (omega (arith, count, within))
    ∙ ap (λ (text : List ℕ). text ∷ drop (place + 1) (texts_of rows)) (text_at rows place row within is)

-- the widest character of a row, or what was wider before
pub widest_from : (least : ℕ) (row : List ℕ) → 0 < least → widest least row ≡ max least (widest 1 row)
widest_from least [] some = omega (arith, some)
widest_from least (c ∷ row) some =
    let here = widest_from (max least (columns_of c)) row (omega (arith, some)) in
    let alone = widest_from (max 1 (columns_of c)) row (omega arith) in
    omega (arith, here, alone)

pub wider : (rows : List (Rc FrameRow Global)) (place : ℕ) (row : Rc FrameRow Global) (columns : ℕ) →
    place < length rows → row ≡ get_or rows place row → 0 < columns →
    columns ≡ fold widest 1 (take place (texts_of rows)) →
    max (widest 1 row.value.text) columns ≡ fold widest 1 (take (place + 1) (texts_of rows))
wider rows place row columns within is some so_far =
    let count = texts_count rows in
    let swapped : max (widest 1 row.value.text) columns ≡ max columns (widest 1 row.value.text) = omega arith in
    let more = take_more (texts_of rows) place [] (omega (arith, count, within)) in
    swapped ∙ sym (widest_from columns row.value.text some)
    ∙ ap (widest columns) (sym (text_at rows place row within is))
    ∙ ap (λ (n : ℕ). widest n (get_or (texts_of rows) place [])) so_far
    ∙ sym (fold-append widest 1 (take place (texts_of rows)) (get_or (texts_of rows) place [] ∷ []))
    ∙ ap (fold widest 1) (sym more)

-- the first cell that shows the player
pub first_more : (players : List ℕ) (first : Option Cell) (rows : List (Rc FrameRow Global)) (place : ℕ)
    (row : Rc FrameRow Global) → place < length rows → row ≡ get_or rows place row →
    first_player_from players first place (drop place (texts_of rows))
    ≡ first_player_from players (first_cell_of first (cell_at place (player_place players row.value.text))) (place + 1)
    (drop (place + 1) (texts_of rows))
first_more players first rows place row within is =
    let next : place + 1 ≡ suc place = omega arith in
    ap (first_player_from players first place) (texts_from rows place row within is)
    ∙ ap (λ (n : ℕ). first_player_from players
    (first_cell_of first (cell_at place (player_place players row.value.text))) n (drop (place + 1) (texts_of rows)))
    (sym next)

pub first_further : (players : List ℕ) (rows : List (Rc FrameRow Global)) (first next : Option Cell) (place : ℕ)
    (row : Rc FrameRow Global) → place < length rows → row ≡ get_or rows place row →
    next ≡ first_cell_of first (cell_at place (player_place players row.value.text)) →
    first_player_from players first place (drop place (texts_of rows)) ≡ first_player_from players None 0 (texts_of rows) →
    first_player_from players next (place + 1) (drop (place + 1) (texts_of rows))
    ≡ first_player_from players None 0 (texts_of rows)
first_further players rows first next place row within is more so_far =
    ap (λ (cell : Option Cell). first_player_from players cell (place + 1) (drop (place + 1) (texts_of rows))) more
    ∙ sym (first_more players first rows place row within is) ∙ so_far

-- what is known of the row at a place
pub known_of_row : (players : List ℕ) (rows : List (Rc FrameRow Global)) (place : ℕ) (row : Rc FrameRow Global) →
    AreRowsFor players rows → place < length rows → row ≡ get_or rows place row →
    row.value.player ≡ player_place players row.value.text
known_of_row players rows place row all within is =
    subst (λ (r : Rc FrameRow Global). r.value.player ≡ player_place players r.value.text) (sym is)
    (all place row within)

-- parts of rows -------------------------------------------------------------------------------------------------------

pub texts_dropped : (rows : List (Rc FrameRow Global)) (count : ℕ) →
    texts_of (drop count rows) ≡ drop count (texts_of rows)
texts_dropped rows count = sym (drop-map (λ (row : Rc FrameRow Global). row.value.text) count rows)

pub texts_taken : (rows : List (Rc FrameRow Global)) (count : ℕ) →
    texts_of (take count rows) ≡ take count (texts_of rows)
texts_taken rows count = sym (take-map (λ (row : Rc FrameRow Global). row.value.text) count rows)

-- what is made of rows, one further
pub made_more : (make : List ℕ → List ℕ) (rows : List (Rc FrameRow Global)) (place : ℕ) (row : Rc FrameRow Global)
    (text : List ℕ) (before so_far next : List (List ℕ)) → place < length rows → row ≡ get_or rows place row →
    text ≡ row.value.text → so_far ≡ before ++ map make (take place (texts_of rows)) →
    next ≡ so_far ++ make text ∷ [] → next ≡ before ++ map make (take (place + 1) (texts_of rows))
made_more make rows place row text before so_far next within is reads were more =
    let count = texts_count rows in
    let one = take_more (texts_of rows) place [] (omega (arith, count, within)) in
    more ∙ ap (λ (rows : List (List ℕ)). rows ++ make text ∷ []) were
    ∙ append_assoc before (map make (take place (texts_of rows))) (make text ∷ [])
    ∙ ap (λ (last : List ℕ). before ++ (map make (take place (texts_of rows)) ++ make last ∷ []))
    (reads ∙ sym (text_at rows place row within is))
    ∙ ap (λ (rows : List (List ℕ)). before ++ rows)
    (sym (map-append make (take place (texts_of rows)) (get_or (texts_of rows) place [] ∷ [])))
    ∙ ap (λ (rows : List (List ℕ)). before ++ map make rows) (sym one)
