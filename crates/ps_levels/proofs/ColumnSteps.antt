-- The cells of rows, a column further.
use Rattle.std.proofs.Common.{◌≡◌, ℕ, ◌+◌, List, [], ◌∷◌, ◌++◌, map, get_or, sym, ap, ◌∙◌, arith}
use Rattle.std.specs.List.{flat_map, range_with_len}
use Rattle.std.proofs.lemmas.Grind.{flat_map-append}
use Rattle.std.proofs.lemmas.List.{map-id, append-nil}
use Rattle.std.proofs.lemmas.List.FromFn.{map-range_with_len_more}
use Rattle.ps_model.specs.declared.pieces.ObjectId.{ObjectId}
use Rattle.ps_model.specs.session.LevelLines.{in_columns}

abbrev Row : Type 0
Row = List (List ObjectId)

-- a column more
pub column_more : (n : ℕ) (rows : List Row) → in_columns (n + 1) rows ≡ in_columns n rows ++ map (λ (r : Row).
    get_or r n []) rows
column_more n rows =
    let range : range_with_len 0 (n + 1) ≡ range_with_len 0 n ++ n ∷ [] =
    sym (map-id (range_with_len 0 (n + 1))) ∙ map-range_with_len_more (λ (k : ℕ). k) 0 n n (omega arith)
    ∙ ap (λ (ks : List ℕ). ks ++ n ∷ []) (map-id (range_with_len 0 n)) in
    let pick : ℕ → Row = λ k. map (λ (r : Row). get_or r k []) rows in
    ap (flat_map pick) range ∙ flat_map-append pick (range_with_len 0 n) (n ∷ [])
    ∙ ap (λ (items : Row). in_columns n rows ++ items) (append-nil (pick n))
