-- Rows of frames: which are the same, and what they make together.
use Rattle.std.proofs.Common.{◌≡◌, ℕ, ◌+◌, ◌*◌, ◌<◌, ◌≤◌, Bool, List, [], ◌∷◌, ◌++◌, map, refl, sym, ap}
use Rattle.std.proofs.Common.{◌∙◌, arith}
use Rattle.std.specs.Prelude.{encode_utf8, codes}
use Rattle.std.specs.List.{flat_map, range_with_len}
use Rattle.std.proofs.lemmas.List.{same_lists, get_or_default}
use Rattle.std.proofs.lemmas.List.FromFn.{length-map-range_with_len, get_or-map-range_with_len}
use Rattle.ps_model.specs.declared.pieces.ObjectId.{ObjectId}
use Rattle.ps_model.specs.board.Grid.{Grid, cell_at, object_in}
use Rattle.ps_model.specs.names.Names.{Names}
use Rattle.ps_model.specs.session.Frames.{objects_in, character_of, glyph_of_objects, frame, frame_row, shown_character}
use Rattle.ps_model.specs.declared.limits.TheConstants.{SIDE_LIMIT}
use Rattle.ps_laws.proofs.common.Lists.{range_lists-agree}
use Rattle.ps_board.specs.ColumnSets.{set_columns}
use Rattle.ps_board.specs.Rows.{DifferOnlyIn, HaveSameRow}
use Rattle.ps_board.proofs.ColumnLaws.{none_in}
use Rattle.ps_board.proofs.LayerObjects.{objects_by_layer}
use Rattle.ps_screen.specs.KeptRows.{AreRowsOf}

-- what a cell with the same objects is written as
pub same_character : (names : Names) (g h : Grid) (a b : ℕ) → objects_in (cell_at g a) ≡ objects_in (cell_at h b) →
    encode_utf8 (shown_character names (cell_at g a)) ≡ encode_utf8 (shown_character names (cell_at h b))
same_character names g h a b e = ap (λ (objects : List ObjectId).
    encode_utf8 (character_of (glyph_of_objects names objects))) e

-- so is one that has the same object on each layer
pub same_by_layer : (names : Names) (g h : Grid) (a b : ℕ) →
    map object_in (cell_at g a) ≡ map object_in (cell_at h b) →
    encode_utf8 (shown_character names (cell_at g a)) ≡ encode_utf8 (shown_character names (cell_at h b))
same_by_layer names g h a b e = same_character names g h a b (objects_by_layer (cell_at g a) (cell_at h b) e)

-- rows with the same objects are written the same
pub same_frame_row : (names : Names) (g h : Grid) (row : ℕ) → h.width ≡ g.width → h.height ≡ g.height →
    HaveSameRow g h row → frame_row names h row ≡ frame_row names g row
same_frame_row names g h row wide high same =
    ap (λ (text : List ℕ). text ++ codes "\n")
    (ap (λ (n : ℕ). flat_map (λ column. encode_utf8 (shown_character names (cell_at h (column * h.height + row))))
    (range_with_len 0 n)) wide
    ∙ range_lists-agree (λ column. encode_utf8 (shown_character names (cell_at h (column * h.height + row))))
    (λ column. encode_utf8 (shown_character names (cell_at g (column * g.height + row)))) 0 g.width
    (λ column least inside.
    let below : column < g.width = omega arith in
    ap (λ (n : ℕ). encode_utf8 (shown_character names (cell_at h (column * n + row)))) high
    ∙ sym (same_by_layer names g h (column * g.height + row) (column * g.height + row) (same column below))))

-- a row has the same objects in two grids, whichever is the first
pub same_back : (g h : Grid) (row : ℕ) → h.width ≡ g.width → h.height ≡ g.height → HaveSameRow g h row →
    HaveSameRow h g row
same_back g h row wide high same = λ column inside. rw high (sym (same column (omega (arith, inside, wide))))

-- and in a third
pub same_on : (g h k : Grid) (row : ℕ) → h.width ≡ g.width → h.height ≡ g.height → HaveSameRow g h row →
    HaveSameRow h k row → HaveSameRow g k row
same_on g h k row wide high first second = λ column inside. first column inside
    ∙ (rw high at (second column (omega (arith, inside, wide))))

-- no column that differs
pub none_differs : (columns : List Bool) (g h : Grid) (row : ℕ) → g.width ≤ SIDE_LIMIT → set_columns columns ≡ [] →
    DifferOnlyIn columns g h row → HaveSameRow g h row
none_differs columns g h row narrow none only = λ column inside.
    only column inside (none_in columns column none (omega (arith, inside, narrow)))

flat_map-map : {X Y : Type 0} (f : X → List Y) (xs : List X) → flat_map (λ row. row) (map f xs) ≡ flat_map f xs
flat_map-map f [] = refl
flat_map-map f (x ∷ xs) = ap (λ r. f x ++ r) (flat_map-map f xs)

-- the rows one after the other, and an empty line, are the frame
pub rows_joined : (names : Names) (g : Grid) (texts : List (List ℕ)) → AreRowsOf names g texts →
    flat_map (λ row. row) texts ++ codes "\n" ≡ frame names g
rows_joined names g texts rows =
    let drawn : List (List ℕ) = map (frame_row names g) (range_with_len 0 g.height) in
    let each : texts ≡ drawn =
    same_lists texts drawn (rows.long ∙ sym (length-map-range_with_len (frame_row names g) 0 g.height))
    (λ k d inside.
    let below : k < g.height = omega (arith, inside, rows.long) in
    get_or_default texts k d [] inside
    ∙ rows.each k below
    ∙ sym (get_or-map-range_with_len (frame_row names g) 0 g.height k k d below (omega arith))) in
    ap (λ (text : List ℕ). text ++ codes "\n") (ap (flat_map (λ row. row)) each
    ∙ flat_map-map (frame_row names g) (range_with_len 0 g.height))

-- drawn one after the other, they are the rows
pub rows_drawn : (names : Names) (g : Grid) (texts : List (List ℕ)) →
    texts ≡ map (frame_row names g) (range_with_len 0 g.height) → AreRowsOf names g texts
rows_drawn names g texts is =
    rw is
    record {
      long = length-map-range_with_len (frame_row names g) 0 g.height;
      each = λ row under. get_or-map-range_with_len (frame_row names g) 0 g.height row row [] under (omega arith);
    }
