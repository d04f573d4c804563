-- The rows of a rule by its cells.
use Rattle.std.proofs.Common.{◌≡◌, ◌∙◌, List, [], ◌∷◌, ◌++◌, Option, None, Some, option_map, map, drop, refl, sym, ap}
use Rattle.std.proofs.Common.{append_assoc}
use Rattle.std.specs.Prelude.{slice_index_or}
use Rattle.std.proofs.lemmas.Simd.{map-map}
use Rattle.ps_model.specs.text.OptionSteps.{all_there}
use Rattle.ps_model.specs.rules.RuleTree.{rows_of, row_of_cells}
use Rattle.ps_model.specs.rules.RuleShape.{RuleShape, WrittenRow, paired_cells, paired_rows, beside}
use Rattle.ps_model.specs.rules.RuleSymbols.{Token}
use Rattle.ps_rules.specs.CellsShown.{cells_of_rows}
use Rattle.ps_rules.specs.ShapesShown.{behind, rows_shown}
use Rattle.ps_rules.specs.declared.shapes.WrittenRow.{WrittenRow as CodeRow}

pub rows-by-cells : (shape : RuleShape) → map row_of_cells (map paired_cells (paired_rows shape)) ≡ rows_of shape
rows-by-cells shape = map-map row_of_cells paired_cells (paired_rows shape)

behind-more : (rows : List WrittenRow) (row : WrittenRow) (after : Option (List WrittenRow)) →
    behind (rows ++ row ∷ []) after ≡ behind rows (option_map (λ others. row ∷ others) after)
behind-more rows row None = refl
behind-more rows row (Some others) = ap Some (append_assoc rows (row ∷ []) others)

-- one row more
pub rows-more : (rows rows' : List WrittenRow) (row : WrittenRow) (first : Option WrittenRow)
    (others : List (Option WrittenRow)) → first ≡ Some row → rows' ≡ rows ++ row ∷ [] →
    behind rows' (all_there others) ≡ behind rows (all_there (first ∷ others))
rows-more rows rows' row first others f e =
    ap (λ (made : List WrittenRow). behind made (all_there others)) e ∙ behind-more rows row (all_there others)
    ∙ ap (λ (o : Option WrittenRow). behind rows (all_there (o ∷ others))) (sym f)

-- the cells of the rows after the first
pub cells-behind : (rows : List CodeRow) → cells_of_rows (rows_shown (drop 1 rows)) ≡ drop 1
    (cells_of_rows (rows_shown rows))
cells-behind [] = refl
cells-behind (row ∷ rows) = refl

-- one row more, its cells paired with those of the first row among others
pub pairs-more : (made made' : List (List (List Token × List Token))) (pairs : List (List Token × List Token))
    (first : List (List Token)) (lists others others' : List (List (List Token))) →
    pairs ≡ paired_cells (first, slice_index_or others 0 []) → made' ≡ made ++ pairs ∷ [] → others' ≡ drop 1 others →
    made' ++ map paired_cells (beside lists others') ≡ made ++ map paired_cells (beside (first ∷ lists) others)
pairs-more made made' pairs first lists others others' p m o =
    rw (m, o, p) (append_assoc made (paired_cells (first, slice_index_or others 0 []) ∷ [])
    (map paired_cells (beside lists (drop 1 others))))
