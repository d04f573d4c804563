use Rattle.std.proofs.Common.{◌≡◌, ◌∙◌, List, Bool, arith, ap, sym}
use Rattle.std.specs.List.{flat_map}
use Rattle.ps_model.specs.declared.texts.Cut.TheVariants.{Layers}
use Rattle.ps_model.specs.text.Lines.{Line, lines_of}
use Rattle.ps_model.specs.text.Sections.{section_lines}
use Rattle.ps_model.specs.declared.texts.Section.TheVariants as Section
use Rattle.ps_warnings.specs.Marks.{marked}
use Rattle.ps_warnings.specs.NameWarnings.{declaring_lines, lines_named, others_named}
use Rattle.ps_warnings.proofs.MarksMade.{marked_more}
use Rattle.ps_warnings.proofs.names.mark_named.Goals as goal

pub returns-clause-used : goal.returns-clause-used
returns-clause-used c =
    let text = c.args.source.now in
    let names = c.args.names.now in
    let G : List Line = section_lines (lines_of text) Section.Legend in
    let Y : List Line = section_lines (lines_of text) Section.Layers in
    let layers : c.mark_layers.new.used ≡ marked c.args.used.now (flat_map (lines_named names Layers) Y) =
    c.in_ok-mark_layers.ensures
    ∙ ap (λ (lines : List Line). marked c.args.used.now (flat_map (lines_named names Layers) lines))
    (sym c.requires.layers.same) in
    c.in_ok-declaring.ensures.used
    ∙ ap (λ (lines : List Line). marked c.mark_layers.new.used (flat_map (others_named names) lines))
    (sym c.requires.legend.same)
    ∙ ap (λ (marks : List Bool). marked marks (flat_map (others_named names) G)) layers
    ∙ sym (marked_more c.args.used.now (flat_map (lines_named names Layers) Y) (flat_map (others_named names) G))

pub returns-clause-declaring : goal.returns-clause-declaring
returns-clause-declaring c =
    c.in_ok-declaring.ensures.declaring ∙ ap (declaring_lines c.args.names.now) (sym c.requires.legend.same)

pub returns-clause-below : goal.returns-clause-below
returns-clause-below c =
    λ k d less. let here = c.in_ok-declaring.ensures.below k d less in
    let high = c.requires.legend.stretch.1.1 in omega arith
