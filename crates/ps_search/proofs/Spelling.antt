use Rattle.std.proofs.Common.{◌≡◌, ℕ, ◌<◌, List, [], ◌∷◌, ◌++◌, reverse, Option, Some, None, slice_get, sym, ap, ◌∙◌, subst, append_assoc}
use Rattle.std.specs.Prelude.{option_to_list}
use Rattle.std.proofs.lemmas.List.{reverse-append}
use Rattle.ps_search.specs.declared.visited.Link.{Link}
use Rattle.ps_search.specs.Ways.{way, IsBefore, AreOrdered}
use Rattle.ps_search.proofs.Ways.{way-parent, way-first}

module _ {Input : Type 0} (links : List (Link Input)) (ordered : AreOrdered links) (at : ℕ) (link : Link Input) (is : slice_get links at ≡ Some link) where
  -- a link with an input has a parent before it
  pub parent_before : (input : Input) → link.input ≡ Some input → link.parent < at
  parent_before input e = subst (IsBefore link.parent at) e (ordered at link is)

  -- one input further up
  pub spell_more : (keys target : List Input) (input : Input) → link.input ≡ Some input → way links at ++ reverse keys ≡ target
      → way links link.parent ++ reverse (keys ++ input ∷ []) ≡ target
  spell_more keys target input e spells =
      ap (λ (w : List Input). way links link.parent ++ w) (reverse-append keys (input ∷ []))
      ∙ sym (append_assoc (way links link.parent) (input ∷ []) (reverse keys))
      ∙ ap (λ (o : Option Input). (way links link.parent ++ option_to_list o) ++ reverse keys) (sym e)
      ∙ ap (λ (w : List Input). w ++ reverse keys) (sym (way-parent links at link is (parent_before input e)))
      ∙ spells

  -- at the first link all are told
  pub spell_all : (keys target : List Input) → link.input ≡ None → way links at ++ reverse keys ≡ target → reverse keys ≡ target
  spell_all keys target e spells =
      let first : at ≡ 0 = subst (IsBefore link.parent at) e (ordered at link is) in
      let at_first : slice_get links 0 ≡ Some link = ap (slice_get links) (sym first) ∙ is in
      ap (λ (w : List Input). w ++ reverse keys) (sym (ap (way links) first ∙ way-first links link at_first e)) ∙ spells
