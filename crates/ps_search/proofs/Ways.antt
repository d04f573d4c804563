use Rattle.std.proofs.Common.{◌≡◌, ℕ, zero, suc, ◌+◌, ◌<◌, List, [], ◌∷◌, ◌++◌, length, Some, None, fold, slice_get, get_or, refl, sym, ap, ◌∙◌, arith, length-append}
use Rattle.std.specs.Prelude.{option_to_list}
use Rattle.std.proofs.Math.ListN.{get_or-append}
use Rattle.std.proofs.Math.Seq.{get_or-append_seam}
use Rattle.std.proofs.lemmas.List.Sums.{fold-append}
use Rattle.ps_search.specs.declared.visited.Link.{Link}
use Rattle.ps_search.specs.Ways.{with_way, ways, way}

module _ {Input : Type 0} where
  -- a list is one longer with one more
  pub length-with_way : (done : List (List Input)) (link : Link Input) → length (with_way done link) ≡ length done + 1
  length-with_way done link = length-append done ((get_or done link.parent [] ++ option_to_list link.input) ∷ [])

  -- lists that are spelled stay
  pub fold_keeps : (links : List (Link Input)) (done : List (List Input)) (number : ℕ) → number < length done → get_or (fold with_way done links) number [] ≡ get_or done number []
  fold_keeps [] done number h = refl
  fold_keeps (link ∷ rest) done number h =
      let longer : number < length (with_way done link) = omega (arith, length-with_way done link) in
      fold_keeps rest (with_way done link) number longer ∙ get_or-append done _ [] number h

  -- there is one for each link
  pub length-fold : (links : List (Link Input)) (done : List (List Input)) → length (fold with_way done links) ≡ length done + length links
  length-fold [] done = omega arith
  length-fold (link ∷ rest) done =
      let e = length-fold rest (with_way done link) in omega (arith, length-with_way done link)

  pub length-ways : (links : List (Link Input)) → length (ways links) ≡ length links
  length-ways links = let e = length-fold links [] in omega arith

  -- of one more link
  pub ways-push : (links : List (Link Input)) (link : Link Input) → ways (links ++ link ∷ []) ≡ with_way (ways links) link
  ways-push links link = fold-append with_way [] links (link ∷ [])

  pub way-kept : (links : List (Link Input)) (link : Link Input) (number : ℕ) → number < length links → way (links ++ link ∷ []) number ≡ way links number
  way-kept links link number h =
      ap (λ (w : List (List Input)). get_or w number []) (ways-push links link) ∙ get_or-append (ways links) _ [] number (let e = length-ways links in omega arith)

  pub way-last : (links : List (Link Input)) (link : Link Input) → way (links ++ link ∷ []) (length links) ≡ way links link.parent ++ option_to_list link.input
  way-last links link =
      ap (λ (w : List (List Input)). get_or w (length links) []) (ways-push links link)
      ∙ ap (λ (n : ℕ). get_or (with_way (ways links) link) n []) (sym (length-ways links))
      ∙ get_or-append_seam (ways links) _ [] []

  -- the list of a link, where others follow
  spelled_there : (done : List (List Input)) (link : Link Input) (rest : List (Link Input)) → get_or (fold with_way (with_way done link) rest) (length done) [] ≡ get_or done link.parent [] ++ option_to_list link.input
  spelled_there done link rest =
      fold_keeps rest (with_way done link) (length done) (omega (arith, length-with_way done link)) ∙ get_or-append_seam done _ [] []

  spelled_later : (links : List (Link Input)) (done : List (List Input)) (number : ℕ) (link : Link Input) → slice_get links number ≡ Some link → link.parent < length done + number
      → get_or (fold with_way done links) (length done + number) [] ≡ get_or (fold with_way done links) link.parent [] ++ option_to_list link.input
  spelled_later [] done number link at h = cc
  spelled_later (first ∷ rest) done zero link at h =
      let same : first ≡ link = cc in
      let there : length done + 0 ≡ length done = omega arith in
      let kept : get_or (fold with_way (with_way done first) rest) link.parent [] ≡ get_or done link.parent [] =
      fold_keeps (first ∷ rest) done link.parent (omega arith) in
      ap (λ (n : ℕ). get_or (fold with_way (with_way done first) rest) n []) there
      ∙ spelled_there done first rest
      ∙ ap (λ (l : Link Input). get_or done l.parent [] ++ option_to_list l.input) same
      ∙ ap (λ (w : List Input). w ++ option_to_list link.input) (sym kept)
  spelled_later (first ∷ rest) done (suc number) link at h =
      let e : length done + suc number ≡ length (with_way done first) + number = omega (arith, length-with_way done first) in
      ap (λ (n : ℕ). get_or (fold with_way (with_way done first) rest) n []) e
      ∙ spelled_later rest (with_way done first) number link at (omega arith)

  -- the list of a link with an input ends with it, after that of its parent
  pub way-parent : (links : List (Link Input)) (number : ℕ) (link : Link Input) → slice_get links number ≡ Some link → link.parent < number → way links number ≡ way links link.parent ++ option_to_list link.input
  way-parent links number link at h =
      let e : 0 + number ≡ number = omega arith in
      ap (λ (n : ℕ). way links n) (sym e) ∙ spelled_later links [] number link at (omega arith)

  -- and the first link without an input spells none
  pub way-first : (links : List (Link Input)) (link : Link Input) → slice_get links 0 ≡ Some link → link.input ≡ None → way links 0 ≡ []
  way-first [] link at none = refl
  way-first (first ∷ rest) link at none =
      let same : first ≡ link = cc in
      spelled_there [] first rest ∙ ap (λ (l : Link Input). option_to_list l.input) same ∙ ap option_to_list none
