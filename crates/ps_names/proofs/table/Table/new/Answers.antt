use Rattle.std.proofs.Common.{◌≡◌, ◌∙◌, ◌+◌, ap, sym, refl, arith, List, Some, Option, map}
use Rattle.std.specs.Prelude.{slice_get}
use Rattle.std.specs.List.{zip}
use Rattle.std.proofs.lemmas.List.{map-append}
use Rattle.ps_model.specs.names.Names.{Meaning}
use Rattle.ps_names.specs.MeaningSteps.{meaning_shown_if, meanings_shown}
use Rattle.ps_names.specs.Tables.{known_name_shown, meaning_with}
use Rattle.ps_names.proofs.tables.TableSteps.{made-step, zip-map, done}
use Rattle.ps_names.proofs.table.Table.new.Goals as goal

pub loop-place-preserved : goal.loop-place-preserved
loop-place-preserved c =
    let legend : List (Option Meaning) = meanings_shown c.args.legend.now in
    let there : slice_get c.args.known c.loop-place.place ≡ Some (known_name_shown c.in-Some.named) =
    sym c.in-Some.ensures in
    made-step (meaning_with legend) c.args.known (meanings_shown c.loop-place.meanings.items)
    (meanings_shown c.push.new.self.items) c.loop-place.place (c.loop-place.place + 1)
    (known_name_shown c.in-Some.named) (meaning_shown_if c.in_ok-meaning.meaning) there (omega arith)
    (rw (c.in_ok-push.ensures.items, map-append) refl) c.in_ok-meaning.ensures
    ∙ c.loop-place.invariant

pub returns : goal.returns
returns c =
    let legend : List (Option Meaning) = meanings_shown c.args.legend.now in
    let made : meanings_shown c.loop-place.meanings.items ≡ map (meaning_with legend) c.args.known =
    done (meaning_with legend) c.args.known (meanings_shown c.loop-place.meanings.items) _ c.loop-place.place
    (omega arith) c.loop-place.invariant in
    ap (λ (ms : List (Option Meaning)). zip c.args.known ms) made ∙ zip-map (meaning_with legend) c.args.known
