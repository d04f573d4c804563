use Rattle.std.proofs.Common.{◌∙◌, ◌+◌, ℕ, List, Option, option_map, map, drop, sym, ap, refl, arith}
use Rattle.std.specs.Borrow.{Bor}
use Rattle.std.specs.List.{filter_map, cons_option}
use Rattle.std.specs.Option.{option_to_list}
use Rattle.std.proofs.lemmas.Grind.{common_steps}
use Rattle.ps_model.specs.names.Meanings.{Mention as Meant}
use Rattle.ps_names.specs.Known.{mention_shown, mentions_shown}
use Rattle.ps_names.specs.LegendNames.{found_among}
use Rattle.ps_names.proofs.common.Loops.{made-more, option-first}
use Rattle.ps_names.proofs.legend_names.mentions_named.Goals as goal

pub loop-name-preserved : goal.loop-name-preserved
loop-name-preserved c =
    let f : List (Bor (List ℕ)) → List Meant = λ names. filter_map (λ (mention : Option Meant). mention)
    (found_among c.args.known.now (map (λ (name : Bor (List ℕ)). name.now) names)) in
    record {
      found = made-more f (mentions_shown c.loop-name.found.items) (mentions_shown c.push_mention.new.made.items)
          (option_to_list (option_map mention_shown c.in_ok-mention.mention)) (f c.args.names.now) c.args.names.now
          c.loop-name.name-index _ _ c.in_ok-push_mention.ensures c.loop-name-test.true refl
          (ap (λ (o : Option Meant). cons_option o (f (drop (c.loop-name.name-index + 1) c.args.names.now)))
          (sym c.in_ok-mention.ensures)
          ∙ option-first (option_map mention_shown c.in_ok-mention.mention)
          (f (drop (c.loop-name.name-index + 1) c.args.names.now))) c.loop-name.invariant.found;
      all = grind (arith, common_steps);
    }
