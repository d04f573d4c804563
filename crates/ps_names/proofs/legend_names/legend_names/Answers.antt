use Rattle.std.proofs.Common.{◌∙◌, ◌∷◌, [], ◌+◌, ℕ, List, map, length, drop, sym, ap, length-append}
use Rattle.std.proofs.lemmas.List.{map-append}
use Rattle.ps_model.specs.names.Meanings.{LegendName as Meant, legend_name}
use Rattle.ps_names.specs.declared.legend.Declaration.{Declaration}
use Rattle.ps_names.specs.Known.{mentions_of_names}
use Rattle.ps_names.specs.LegendNames.{name_shown, legend_shown}
use Rattle.ps_names.specs.LegendShown.{declarations_shown}
use Rattle.ps_names.proofs.common.Loops.{made-more}
use Rattle.ps_names.proofs.legend_names.legend_names.Goals as goal

pub loop-declared-preserved : goal.loop-declared-preserved
loop-declared-preserved c =
    let f : List Declaration → List Meant = λ declarations.
    map (legend_name (mentions_of_names c.args.known.now)) (declarations_shown declarations) in (
      ap length c.in_ok-push.ensures.items ∙ length-append c.loop-declared.made.items (c.in_ok-name.name ∷ [])
          ∙ ap (λ (n : ℕ). n + 1) c.loop-declared.invariant.0,
      made-more f (legend_shown c.loop-declared.made.items) (legend_shown c.push.new.self.items)
          (name_shown c.in_ok-name.name ∷ []) (f c.args.declarations.now) c.args.declarations.now
          c.loop-declared.declared-index c.declared-item.result _
          (ap legend_shown c.in_ok-push.ensures.items
          ∙ map-append name_shown c.loop-declared.made.items (c.in_ok-name.name ∷ [])) c.loop-declared-test.true
          c.declared-item.is
          (ap (λ (name : Meant). name ∷ f (drop (c.loop-declared.declared-index + 1) c.args.declarations.now))
          (sym c.in_ok-name.ensures)) c.loop-declared.invariant.1,
    )
