-- Links are lists of parents and of inputs.
use Rattle.std.proofs.Common.{◌≡◌, ℕ, zero, suc, ◌<◌, List, [], ◌∷◌, ◌++◌, length, Option, Some, slice_get, refl, ap, arith}
use Rattle.ps_search.specs.declared.visited.Link.{Link}
use Rattle.ps_search.specs.Ways.{links_of, AreOrdered}
use Rattle.ps_search.proofs.Spelling.{parent_before}

module _ {Input : Type 0} where
  -- there is a link for each parent
  pub length-links_of : (parents : List ℕ) (inputs : List (Option Input)) → length inputs ≡ length parents →
      length (links_of parents inputs) ≡ length parents
  length-links_of [] inputs same = refl
  length-links_of (parent ∷ parents) [] same = absurd (omega arith)
  length-links_of (parent ∷ parents) (input ∷ inputs) same =
      ap suc (length-links_of parents inputs (omega arith))

  -- one more of both is one link more
  pub links_of-push : (parents : List ℕ) (inputs : List (Option Input)) (parent : ℕ) (input : Option Input) →
      length inputs ≡ length parents →
      links_of (parents ++ parent ∷ []) (inputs ++ input ∷ [])
      ≡ links_of parents inputs ++ record { parent = parent; input = input } ∷ []
  links_of-push [] [] parent input same = refl
  links_of-push [] (other ∷ inputs) parent input same = absurd (omega arith)
  links_of-push (other ∷ parents) [] parent input same = absurd (omega arith)
  links_of-push (other ∷ parents) (own ∷ inputs) parent input same =
      ap (λ (rest : List (Link Input)). record { parent = other; input = own } ∷ rest)
      (links_of-push parents inputs parent input (omega arith))

  -- the link with a number has the parent and the input with that number
  pub link_at : (parents : List ℕ) (inputs : List (Option Input)) (number parent : ℕ) (input : Option Input) →
      slice_get parents number ≡ Some parent → slice_get inputs number ≡ Some input →
      slice_get (links_of parents inputs) number ≡ Some (record { parent = parent; input = input })
  link_at [] inputs number parent input at_parent at_input = cc
  link_at (other ∷ parents) [] number parent input at_parent at_input = cc
  link_at (other ∷ parents) (own ∷ inputs) zero parent input at_parent at_input =
      let one : other ≡ parent = cc in
      let two : own ≡ input = cc in cc
  link_at (other ∷ parents) (own ∷ inputs) (suc number) parent input at_parent at_input =
      link_at parents inputs number parent input at_parent at_input

  -- a link with an input has a parent before it
  pub before_link : (parents : List ℕ) (inputs : List (Option Input)) (number parent : ℕ) (input : Input) →
      AreOrdered (links_of parents inputs) → slice_get parents number ≡ Some parent →
      slice_get inputs number ≡ Some (Some input) → parent < number
  before_link parents inputs number parent input ordered at_parent at_input =
      parent_before (links_of parents inputs) ordered number (record { parent = parent; input = Some input })
      (link_at parents inputs number parent (Some input) at_parent at_input) input refl
