use Rattle.std.proofs.Common.{◌≡◌, ◌∙◌, ◌+◌, ◌<◌, Bor, List, OnOk, ap, false, length, refl, replicate, subst, sym}
use Rattle.std.specs.Prelude.{All}
use Rattle.std.proofs.lemmas.List.{length-replicate}
use Rattle.ps_model.specs.declared.texts.Section.TheVariants.{Legend, Layers}
use Rattle.ps_model.specs.text.Lines.{lines_of}
use Rattle.ps_model.specs.text.Sections.{section_lines}
use Rattle.ps_model.specs.game.Games.{Game}
use Rattle.ps_levels.specs.EntriesShown.{entries_shown}
use Rattle.ps_levels.specs.WinsShown.{wins_shown}
use Rattle.ps_names.specs.declared.meaning.Meaning.{Meaning}
use Rattle.ps_warnings.specs.declared.kinds.Warning.{Warning}
use Rattle.ps_warnings.specs.Marks.{marked}
use Rattle.ps_warnings.specs.MeaningsSeen.{meanings_seen}
use Rattle.ps_warnings.specs.NameWarnings.{used_lines}
use Rattle.ps_warnings.specs.ObjectWarnings.{used_objects}
use Rattle.ps_warnings.proofs.MarksMade.{length-marked}
use Rattle.ps_warnings.proofs.UnusedTold.{unused_told}
use Rattle.ps_warnings.proofs.unused.warn_of_unused.Goals as goal

pub warn_of_objects-requires-clause-each : goal.warn_of_objects-requires-clause-each
warn_of_objects-requires-clause-each c =
    ap length (c.deref_mut.ensures.value ∙ c.in_ok-used.ensures)
    ∙ length-marked (replicate c.object_count-count.result false)
    (used_objects (meanings_seen c.deref-2.result.now) (entries_shown c.deref-3.result.now))
    ∙ length-replicate c.object_count-count.result false ∙ c.object_count-count.ensures.count

pub returns : goal.returns
returns c =
    let text = c.args.source.now in
    let names = c.game.inside.names in
    let same : c.deref-4.result.now ≡ c.deref-2.result.now = c.deref-4.ensures.value ∙ sym c.deref-2.ensures.value in
    let whole = unused_told text c.args.game.now names c.game.inside.rules (wins_shown c.deref.result.now)
    (meanings_seen c.deref-2.result.now) (entries_shown c.deref-3.result.now) c.object_count-count.result
    c.deref_mut.result.now c.deref-5.result.now c.deref-6.result.now c.args.told.now.items
    c.warn_of_objects.new.told.items _ c.object_count-count.ensures.facts
    (ap (λ (g : Game). g.names) c.game.view_is) (ap (λ (g : Game). g.rules) c.game.view_is)
    (ap wins_shown c.deref.ensures.value ∙ ap (λ (g : Game). g.wins) c.game.view_is)
    (ap entries_shown c.deref-3.ensures.value ∙ ap (λ (g : Game). g.entries) c.game.view_is)
    (ap meanings_seen c.deref-2.ensures.value ∙ c.in_ok-spoken.ensures) c.object_count-count.ensures.count
    (c.deref_mut.ensures.value ∙ c.in_ok-used.ensures) c.in_ok-warn_of_objects.ensures
    (c.deref-5.ensures.value ∙ c.in_ok-found.ensures.used
    ∙ ap (λ (spoken : List (Bor Meaning)). marked (replicate (length (lines_of text) + 1) false)
    (used_lines names (meanings_seen spoken) (section_lines (lines_of text) Legend)
    (section_lines (lines_of text) Layers))) same)
    (c.deref-6.ensures.value ∙ c.in_ok-found.ensures.declaring)
    (subst (All (λ line. line < length (lines_of text) + 1)) (sym c.deref-6.ensures.value) c.in_ok-found.ensures.below)
    refl in
    subst (λ (more : List Warning). OnOk c.warn_of_names.result (c.warn_of_names.new.told.items ≡ more)) whole
    c.warn_of_names.ensures
