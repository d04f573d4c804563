-- What is found among items and among those after them.
use Rattle.std.proofs.Common.{◌≡◌, ℕ, Bool, List, [], ◌∷◌, ◌++◌, Some, None, refl, ap, sym, ◌∙◌, filter}
use Rattle.std.proofs.lemmas.List.Elements.{filter-append, filter_map-append}
use Rattle.ps_model.specs.meaning.Occurrences.{numbers, number_of, here_or_only}
use Rattle.ps_model.specs.rules.SourceRules.{Item}
use Rattle.ps_rules.specs.SoughtItems.{found_with, found_from, only_found, first_number}
use Rattle.ps_rules.specs.declared.sought.Found.{Found}
use Rattle.ps_rules.specs.declared.sought.Found.TheVariants.{Nothing, Several}

found-append : (found : Found) (ns ms : List ℕ) → found_from found (ns ++ ms) ≡ found_from (found_from found ns) ms
found-append found [] ms = refl
found-append found (n ∷ ns) ms = found-append (found_with found n) ns ms

pub found_behind : (found : Found) (p : Item → Bool) (xs ys : List Item)
    → found_from found (numbers (filter p (xs ++ ys))) ≡ found_from (found_from found (numbers (filter p xs)))
    (numbers (filter p ys))
found_behind found p xs ys =
    ap (λ items. found_from found (numbers items)) (filter-append p xs ys)
    ∙ ap (found_from found) (filter_map-append number_of (filter p xs) (filter p ys))
    ∙ found-append found (numbers (filter p xs)) (numbers (filter p ys))

several-stay : (ns : List ℕ) → found_from Several ns ≡ Several
several-stay [] = refl
several-stay (n ∷ ns) = several-stay ns

-- without an occurrence here, the only one of all
pub only_of : (all : List ℕ) → here_or_only [] all ≡ only_found (found_from Nothing all)
only_of [] = refl
only_of (n ∷ []) = refl
only_of (n ∷ m ∷ ns) = sym (ap only_found (several-stay ns))

pub here_of : (here all : List ℕ) (n : ℕ) → first_number here ≡ Some n → here_or_only here all ≡ Some n
here_of [] all n e = cc
here_of (h ∷ hs) all n e = e

pub not_here : (here all : List ℕ) → first_number here ≡ None →
    here_or_only here all ≡ only_found (found_from Nothing all)
not_here [] all e = only_of all
not_here (h ∷ hs) all e = cc
