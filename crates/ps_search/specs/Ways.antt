-- The lists of inputs that links spell.
use Rattle.std.specs.Prelude.{◌≡◌, ℕ, ◌<◌, List, [], ◌∷◌, ◌++◌, Option, Some, None, fold, slice_get, option_to_list}
use Rattle.std.proofs.Common.{get_or}
use Rattle.ps_search.specs.declared.visited.Link.{Link}

module _ {Input : Type 0} where
  -- links, by their parents and their inputs
  abbrev pub links_of : List ℕ → List (Option Input) → List (Link Input)
  links_of [] inputs = []
  links_of (parent ∷ parents) [] = []
  links_of (parent ∷ parents) (input ∷ inputs) = record { parent = parent; input = input } ∷ links_of parents inputs

  -- with one more list: that of the link's parent, and then the link's input
  abbrev pub with_way : List (List Input) → Link Input → List (List Input)
  with_way ways link = ways ++ (get_or ways link.parent [] ++ option_to_list link.input) ∷ []

  -- the list that each link spells
  abbrev pub ways : List (Link Input) → List (List Input)
  ways links = fold with_way [] links

  -- the list that the link with this number spells
  abbrev pub way : List (Link Input) → ℕ → List Input
  way links number = get_or (ways links) number []

  -- the first link has no input, and others have parents before them
  abbrev pub IsBefore : ℕ → ℕ → Option Input → Type 0
  IsBefore parent number None = number ≡ 0
  IsBefore parent number (Some input) = parent < number

  abbrev pub AreOrdered : List (Link Input) → Type 0
  AreOrdered links = (number : ℕ) (link : Link Input) → slice_get links number ≡ Some link → IsBefore link.parent number link.input
