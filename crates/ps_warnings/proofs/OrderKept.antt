-- Two lists in the order of lines, a warning further.
use Rattle.std.proofs.Common.{◌≡◌, ◌∙◌, ◌++◌, ◌+◌, ℕ, List, [], ◌∷◌, take, drop, sym, ap, append_assoc}
use Rattle.std.proofs.lemmas.List.{drop-drop}
use Rattle.ps_warnings.specs.declared.kinds.Warning.{Warning}
use Rattle.ps_warnings.specs.InOrder.{count_above, in_order}

-- one more is put last, after those of the others that are of lines above
pub next_told : (one : Warning) (others above : List Warning) (at next : ℕ) (before after : List Warning) →
    above ≡ take (count_above one.line (drop at others)) (drop at others) →
    next ≡ at + count_above one.line (drop at others) → after ≡ (before ++ above) ++ (one ∷ []) →
    (more : List Warning) →
    after ++ in_order more (drop next others) ≡ before ++ in_order (one ∷ more) (drop at others)
next_told one others above at next before after a n e more =
    let rest : List Warning = drop at others in
    let count : ℕ = count_above one.line rest in
    let further : drop next others ≡ drop count rest =
    ap (λ (m : ℕ). drop m others) n ∙ sym (drop-drop count at others) in
    ap (λ (told : List Warning). told ++ in_order more (drop next others)) e
    ∙ append_assoc (before ++ above) (one ∷ []) (in_order more (drop next others))
    ∙ append_assoc before above (one ∷ in_order more (drop next others))
    ∙ ap (λ (told : List Warning). before ++ told)
    (ap (λ (told : List Warning). told ++ (one ∷ in_order more (drop next others))) a
    ∙ ap (λ (left : List Warning). take count rest ++ (one ∷ in_order more left)) further)
