-- A property that is unmatched in no cell is on the left too.
use Rattle.std.proofs.Common.{◌≡◌, ℕ, Bool, true, false, not, ◌&&◌, ◌||◌, List, [], ◌∷◌, refl, ap, ap₂, sym, ◌∙◌}
use Rattle.std.specs.Prelude.{nat_eq}
use Rattle.std.specs.List.{list_any, list_all}
use Rattle.ps_model.specs.declared.pieces.ObjectId.{ObjectId}
use Rattle.ps_model.specs.names.Names.{Names, One, AllOf, AnyOf}
use Rattle.ps_model.specs.meaning.Occurrences.{names_it, is_loose, are_on_one_layer, cells_of}
use Rattle.ps_model.specs.rules.SourceRules.{Item, Is, No, CellPair, SourceRule}
use Rattle.ps_rules.specs.Unmatched.{has_property, is_unmatched}

-- properties of one line are one, whatever objects are given with them
any-property : (items : List Item) (line : ℕ) (objects : List ObjectId) →
    list_any (names_it (AnyOf line objects)) items ≡ has_property items line
any-property [] line objects = refl
any-property (Is at word (One object) ∷ items) line objects = any-property items line objects
any-property (Is at word (AllOf other others) ∷ items) line objects = any-property items line objects
any-property (Is at word (AnyOf other others) ∷ items) line objects =
    ap (λ b. nat_eq line other || b) (any-property items line objects)
any-property (No meaning ∷ items) line objects = any-property items line objects

not-but : (r l : Bool) → (not r || l) ≡ not (r && not l)
not-but true true = refl
not-but true false = refl
not-but false l = refl

all-not : (b rest : Bool) → (not b && not rest) ≡ not (b || rest)
all-not true rest = refl
all-not false rest = refl

all-matched : (cells : List CellPair) (line : ℕ) (objects : List ObjectId)
    → list_all (λ cell. not (list_any (names_it (AnyOf line objects)) cell.right) || list_any
    (names_it (AnyOf line objects)) cell.left) cells ≡ not (list_any (is_unmatched line) cells)
all-matched [] line objects = refl
all-matched (cell ∷ cells) line objects =
    ap₂ (λ a b. a && b)
    (ap₂ (λ r l. not r || l) (any-property cell.right line objects) (any-property cell.left line objects)
    ∙ not-but (has_property cell.right line) (has_property cell.left line))
    (all-matched cells line objects)
    ∙ all-not (is_unmatched line cell) (list_any (is_unmatched line) cells)

-- a property is loose whose members lie on one layer, and which is unmatched in no cell
pub loose : (names : Names) (rule : SourceRule) (line : ℕ) (objects : List ObjectId) →
    (are_on_one_layer names objects && not (list_any (is_unmatched line) (cells_of rule))) ≡ is_loose names rule
    (AnyOf line objects)
loose names rule line objects = ap (λ b. are_on_one_layer names objects && b)
    (sym (all-matched (cells_of rule) line objects))
