use Rattle.std.proofs.Common.{◌≡◌, ◌∙◌, ◌++◌, ◌+◌, ℕ, Bool, List, ap, false, length, replicate}
use Rattle.std.specs.List.{flat_map}
use Rattle.ps_model.specs.declared.texts.Cut.TheVariants.{Layers}
use Rattle.ps_model.specs.declared.texts.Section.TheVariants as Section
use Rattle.ps_model.specs.text.Lines.{lines_of}
use Rattle.ps_model.specs.text.Sections.{section_lines}
use Rattle.ps_warnings.specs.Marks.{marked}
use Rattle.ps_warnings.specs.MeaningsSeen.{meanings_seen}
use Rattle.ps_warnings.specs.NameWarnings.{lines_meant, lines_named, lines_of_glyphs, others_named}
use Rattle.ps_warnings.proofs.MarksMade.{length-marked, marked_four, written_back}
use Rattle.ps_warnings.proofs.names.names_found.Goals as goal

pub returns-clause-used : goal.returns-clause-used
returns-clause-used c =
    let text = c.args.source.now in
    let names = c.args.names.now in
    let layers : List ℕ = flat_map (lines_named names Layers) (section_lines (lines_of text) Section.Layers) in
    let others : List ℕ = flat_map (others_named names) (section_lines (lines_of text) Section.Legend) in
    let marks : c.mark_named.new.used ≡ marked c.in_ok-used.used.items (layers ++ others) =
    c.in_ok-declaring.ensures.used
    ∙ ap (λ (lent : List Bool). marked lent (layers ++ others)) c.deref_mut.ensures.value in
    written_back c.in_ok-used.used.len c.in_ok-used.used.items c.mark_named.new.used c.in_ok-used.used.ok.0
    (ap length marks ∙ length-marked c.in_ok-used.used.items (layers ++ others))
    ∙ marked_four (replicate (length (lines_of text) + 1) false) c.in_ok-used.used.items c.mark_named.new.used
    (lines_meant (meanings_seen c.args.spoken.now)) (lines_of_glyphs names.glyphs) layers others c.in_ok-used.ensures
    marks
