use Rattle.std.proofs.Common.{◌≡◌, ◌∙◌, ◌+◌, ◌<◌, ◌++◌, ap, sym, refl, arith, List, ℕ, length, map}
use Rattle.std.specs.List.{enumerate_from, drop-map}
use Rattle.std.proofs.lemmas.List.{length-map, map-append}
use Rattle.ps_model.specs.names.Meanings.{LegendName, OfLine, meaning_behind}
use Rattle.ps_names.specs.LegendNames.{name_shown, legend_shown}
use Rattle.ps_names.specs.MeaningSteps.{meaning_shown_if, meanings_shown, meaning_at}
use Rattle.ps_names.proofs.standing.MeaningLaws.{meanings-step}
use Rattle.ps_names.proofs.meanings.legend_meanings.Goals as goal

pub loop-place-preserved : goal.loop-place-preserved
loop-place-preserved c =
    let legend : List LegendName = legend_shown c.args.legend.now in
    let place : ℕ = c.loop-place.place in
    let within : place < length legend = rw length-map c.loop-place-test.true in
    let meaning : meaning_shown_if c.in_ok-meaning.meaning ≡ meaning_behind legend (length legend) (OfLine place) =
    c.in_ok-meaning.ensures ∙ ap (λ (n : ℕ). meaning_behind legend n (OfLine place))
    (sym (length-map c.args.legend.now name_shown)) in
    let step = meanings-step legend (meanings_shown c.loop-place.made.items) (meanings_shown c.push.new.self.items)
    (meaning_shown_if c.in_ok-meaning.meaning) place (place + 1) within (omega arith)
    (rw (c.in_ok-push.ensures.items, map-append) refl) meaning in
    ap (λ (xs : List LegendName). meanings_shown c.push.new.self.items ++ map (meaning_at legend)
    (enumerate_from (place + 1) xs)) (sym (drop-map name_shown (place + 1) c.args.legend.now))
    ∙ step
    ∙ ap (λ (xs : List LegendName). meanings_shown c.loop-place.made.items ++ map (meaning_at legend)
    (enumerate_from place xs)) (drop-map name_shown place c.args.legend.now)
    ∙ c.loop-place.invariant
