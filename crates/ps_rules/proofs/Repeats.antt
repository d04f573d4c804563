-- What stands twice in a list stands after itself in it.
use Rattle.std.proofs.Common.{◌≡◌, ℕ, nat_eq, Bool, true, false, ◌||◌, List, [], ◌∷◌, ◌++◌, refl, ap, ap₂, sym, ◌∙◌}
use Rattle.std.proofs.Common.{append_assoc}
use Rattle.std.specs.List.{list_any}
use Rattle.std.proofs.lemmas.List.{append-nil}
use Rattle.std.proofs.lemmas.List.Folds.{list_any-append}
use Rattle.std.proofs.Math.Bool.{or_assoc, or-false}
use Rattle.ps_model.specs.declared.pieces.ObjectId.{ObjectId}
use Rattle.ps_model.specs.names.Names.{same_object}
use Rattle.ps_model.specs.rules.RuleNameFaults.{has_twice}
use Rattle.ps_laws.proofs.common.Truths.{equal_so}
use Rattle.ps_laws.proofs.common.Lists.{any-map}
use Rattle.ps_rules.specs.Twice.{twice_behind, object_numbers}

or-four : (a b c d : Bool) → ((a || (b || false)) || (c || d)) ≡ ((a || c) || (b || d))
or-four true b c d = refl
or-four false true true d = refl
or-four false true false d = refl
or-four false false c d = refl

twice-last : (seen : List ℕ) (n : ℕ) → has_twice nat_eq (seen ++ n ∷ []) ≡
    (has_twice nat_eq seen || list_any (nat_eq n) seen)
twice-last [] n = refl
twice-last (s ∷ seen) n =
    ap₂ (λ a b. a || b) (list_any-append (nat_eq s) seen (n ∷ [])) (twice-last seen n)
    ∙ or-four (list_any (nat_eq s) seen) (nat_eq s n) (has_twice nat_eq seen) (list_any (nat_eq n) seen)
    ∙ ap (λ b. (list_any (nat_eq s) seen || has_twice nat_eq seen) || (b || list_any (nat_eq n) seen))
    (equal_so s n _ _ refl refl)

twice-seen : (seen ns : List ℕ) → has_twice nat_eq (seen ++ ns) ≡ (has_twice nat_eq seen || twice_behind seen ns)
twice-seen seen [] = ap (has_twice nat_eq) (append-nil seen) ∙ sym (or-false (has_twice nat_eq seen))
twice-seen seen (n ∷ ns) =
    ap (has_twice nat_eq) (sym (append_assoc seen (n ∷ []) ns)) ∙ twice-seen (seen ++ n ∷ []) ns
    ∙ ap (λ b. b || twice_behind (seen ++ n ∷ []) ns) (twice-last seen n)
    ∙ or_assoc (has_twice nat_eq seen) (list_any (nat_eq n) seen) (twice_behind (seen ++ n ∷ []) ns)

pub twice_numbers : (ns : List ℕ) → has_twice nat_eq ns ≡ twice_behind [] ns
twice_numbers ns = twice-seen [] ns

objects-by-numbers : (objects : List ObjectId) →
    has_twice same_object objects ≡ has_twice nat_eq (object_numbers objects)
objects-by-numbers [] = refl
objects-by-numbers (object ∷ objects) =
    ap₂ (λ a b. a || b) (sym (any-map (nat_eq object.0) (λ (o : ObjectId). o.0) objects)) (objects-by-numbers objects)

pub twice_objects : (objects : List ObjectId) → has_twice same_object objects ≡ twice_behind [] (object_numbers objects)
twice_objects objects = objects-by-numbers objects ∙ twice_numbers (object_numbers objects)
