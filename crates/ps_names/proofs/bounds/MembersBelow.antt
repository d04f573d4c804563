-- The objects that names speak of are objects of the game.
use Rattle.std.proofs.Common.{ℕ, List, Option, Some, None, All, ◌<◌, ◌≡◌, ◌∙◌, option_map, subst, sym}
use Rattle.std.specs.Prelude.{IfSome}
use Rattle.std.specs.Str.{bytes_eq}
use Rattle.std.proofs.lemmas.List.Elements.{All-nil}
use Rattle.std.proofs.lemmas.Map.Entries.{All-lookup}
use Rattle.ps_model.specs.declared.pieces.ObjectId.{ObjectId}
use Rattle.ps_model.specs.text.Lines.{folded}
use Rattle.ps_model.specs.names.Names.{Meaning, Names, members_if, members_named, meaning_of, object_count}
use Rattle.ps_model.specs.names.NameBounds.{AreBounded, IsBelow}

-- the objects of a meaning that may be absent
pub members_if_below : (count : ℕ) (found : Option Meaning) → IfSome found (IsBelow count) →
    All (λ object. object.0 < count) (members_if found)
members_if_below count None below = All-nil (λ (object : ObjectId). object.0 < count)
members_if_below count (Some meaning) below = below

-- what a name stands for
pub meaning_of_below : (names : Names) → AreBounded names → (name : List ℕ) →
    IfSome (meaning_of names name) (IsBelow (object_count names))
meaning_of_below names bounded name = All-lookup (IsBelow (object_count names)) (bytes_eq (folded name)) names.entries
    bounded.names_below

-- the objects that a name speaks of
pub members_named_below : (names : Names) → AreBounded names → (name : List ℕ) →
    All (λ object. object.0 < object_count names) (members_named names name)
members_named_below names bounded name = members_if_below (object_count names) (meaning_of names name)
    (meaning_of_below names bounded name)

-- the same of objects that are kept beside the names, as a caller that asks for the names sees both
pub kept_below : (names seen : Names) (name : List ℕ) (kept objects : List ObjectId) → AreBounded names →
    names ≡ seen → kept ≡ members_named names name → objects ≡ kept
    → All (λ object. object.0 < object_count seen) objects
kept_below names seen name kept objects bounded s k o =
    subst (λ (n : Names). All (λ object. object.0 < object_count n) objects) s
    (subst (All (λ (object : ObjectId). object.0 < object_count names)) (sym (o ∙ k))
    (members_named_below names bounded name))

shown_below : {A : Type 0} (count : ℕ) (shown : A → Meaning) (found : Option A) →
    IfSome (option_map shown found) (IsBelow count) → IfSome found (λ m. IsBelow count (shown m))
shown_below count shown None below = tt
shown_below count shown (Some found) below = below

-- the same of a meaning that is found
pub found_below : {A : Type 0} (names seen : Names) (name : List ℕ) (shown : A → Meaning) (found : Option A) →
    AreBounded names → names ≡ seen → option_map shown found ≡ meaning_of names name
    → IfSome found (λ m. IsBelow (object_count seen) (shown m))
found_below {A} names seen name shown found bounded s e =
    subst (λ (n : Names). IfSome found (λ (m : A). IsBelow (object_count n) (shown m))) s
    (shown_below (object_count names) shown found
    (subst (λ (o : Option Meaning). IfSome o (IsBelow (object_count names))) (sym e)
    (meaning_of_below names bounded name)))
