use Rattle.std.proofs.Common.{◌≡◌, ◌∙◌, ◌+◌, ◌∷◌, sym, ap, arith, List, ℕ, Option, map, drop, option_map}
use Rattle.std.specs.List.{flat_map}
use Rattle.ps_model.specs.names.Names.{members_if}
use Rattle.ps_names.specs.Shown.{meaning_shown}
use Rattle.ps_names.specs.LayersShown.{placed}
use Rattle.ps_names.proofs.common.Elements.{element-first}
use Rattle.ps_names.proofs.wholes.LayerLaw.{placed-append}
use Rattle.ps_names.proofs.layers.place_layer.Goals as goal

pub loop-meaning-preserved : goal.loop-meaning-preserved
loop-meaning-preserved c =
    let k : ℕ = c.loop-meaning.meaning-index in
    let value = c.deref-meaning-items.ensures.value in
    let first = element-first c.deref-meaning-items.result.now k (k + 1) c.meaning-item.result c.meaning-item.result
    c.loop-meaning-test.true (omega arith) c.meaning-item.is in
    let first' : drop k c.args.layer.now.named.items ≡ c.meaning-item.result ∷ drop (k + 1)
    c.args.layer.now.named.items =
    ap (drop k) (sym value) ∙ first ∙ ap (λ xs. c.meaning-item.result ∷ drop (k + 1) xs) value in
    ap (λ (places : List (Option ℕ)). placed c.args.number places
    (flat_map members_if (map (λ m. option_map (λ m. meaning_shown m.now) m)
    (drop (k + 1) c.args.layer.now.named.items)))) c.place_meaning.ensures
    ∙ sym (placed-append c.args.number c.loop-meaning.places
    (members_if (option_map (λ m. meaning_shown m.now) c.meaning-item.result))
    (flat_map members_if (map (λ m. option_map (λ m. meaning_shown m.now) m)
    (drop (k + 1) c.args.layer.now.named.items))))
    ∙ ap (λ xs. placed c.args.number c.loop-meaning.places
    (flat_map members_if (map (λ m. option_map (λ m. meaning_shown m.now) m) xs))) (sym first')
    ∙ c.loop-meaning.invariant
