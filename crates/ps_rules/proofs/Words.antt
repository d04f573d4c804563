-- Words of several parts.
use Rattle.std.proofs.Common.{◌≡◌, Bool, ◌||◌, List, [], ◌∷◌, ◌++◌, map, refl, sym, ◌∙◌}
use Rattle.std.specs.List.{list_any}
use Rattle.std.proofs.lemmas.List.Folds.{list_any-append}
use Rattle.ps_model.specs.rules.RuleSymbols.{Symbol, Token}
use Rattle.ps_model.specs.rules.RuleShape.{has_kind, WrittenSide, words_in_cells, cells_of_side}
use Rattle.ps_model.specs.rules.RuleShapeFaults.{are_there}
use Rattle.ps_model.specs.rules.RuleNameFaults.{is_no_before_aggregate}
use Rattle.ps_model.specs.rules.SourceRules.{Item}
use Rattle.ps_laws.proofs.common.Lists.{any-flat_map, any-map}

pub are_there_append : (xs ys : List Token) → are_there (xs ++ ys) ≡ (are_there xs || are_there ys)
are_there_append [] ys = refl
are_there_append (x ∷ xs) ys = refl

pub any_in_cells : (kind : Symbol → Bool) (side : WrittenSide) →
    list_any (λ row. list_any (has_kind kind) row.cells) side.rows ≡ has_kind kind (words_in_cells side)
any_in_cells kind side =
    sym (any-flat_map (has_kind kind) (λ row. row.cells) side.rows)
    ∙ sym (any-flat_map (λ token. kind token.symbol) (λ words. words) (cells_of_side side))

pub has_kind_append : (kind : Symbol → Bool) (xs ys : List Token) →
    has_kind kind (xs ++ ys) ≡ (has_kind kind xs || has_kind kind ys)
has_kind_append kind xs ys = list_any-append (λ token. kind token.symbol) xs ys

-- a test of what items are made to, by a name that a tactic can be given
pub any_map : {A B : Type 0} (p : B → Bool) (f : A → B) (xs : List A) →
    list_any p (map f xs) ≡ list_any (λ x. p (f x)) xs
any_map p f xs = any-map p f xs

pub no_before_append : (xs ys : List Item) → list_any is_no_before_aggregate (xs ++ ys) ≡
    (list_any is_no_before_aggregate xs || list_any is_no_before_aggregate ys)
no_before_append xs ys = list_any-append is_no_before_aggregate xs ys
