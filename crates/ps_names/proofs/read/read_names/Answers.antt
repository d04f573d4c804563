use Rattle.std.proofs.Common.{◌≡◌, ◌∙◌, ◌-◌, sym, ap, refl, List, ℕ}
use Rattle.ps_model.specs.declared.texts.Cut.TheVariants.{Legend, Layers}
use Rattle.ps_model.specs.text.Faults.{first_fault}
use Rattle.ps_model.specs.text.LineNumbers.{lines_between}
use Rattle.ps_model.specs.text.Lines.{Line}
use Rattle.ps_model.specs.text.WrittenLines.{WrittenLine, written_lines}
use Rattle.ps_model.specs.names.ObjectLines.{ObjectText, object_texts}
use Rattle.ps_model.specs.names.NamesRead.{NameSections, sections_of, names_of, names_read}
use Rattle.ps_model.specs.names.NameFaults.{name_faults, faults_of_sections}
use Rattle.ps_names.specs.LinesShown.{objects_shown, lines_shown}
use Rattle.ps_names.proofs.common.Refused.{refused-reads}
use Rattle.ps_names.proofs.read.read_names.Goals as goal

-- sections of the same parts
same-sections : (objects objects' : List ObjectText) (legend legend' layers layers' : List WrittenLine) →
    objects ≡ objects' → legend ≡ legend' → layers ≡ layers'
    → sections_of objects legend layers ≡ sections_of objects' legend' layers'
same-sections objects objects' legend legend' layers layers' o l y = rw (o, l, y) refl

pub returns-in_err-names-clause-reads : goal.returns-in_err-names-clause-reads
returns-in_err-names-clause-reads c =
    let text : List ℕ = c.args.source.now in
    let objects : objects_shown c.deref.result.now ≡ object_texts
    (lines_between text c.args.objects.start c.args.objects.end) =
    ap objects_shown c.deref.ensures.value ∙ c.in_ok-objects.ensures in
    let legend : lines_shown c.deref-2.result.now ≡ written_lines Legend
    (lines_between text c.args.legend.start c.args.legend.end) =
    ap lines_shown c.deref-2.ensures.value ∙ c.in_ok-legend.ensures.lines in
    let layers : lines_shown c.deref-3.result.now ≡ written_lines Layers
    (lines_between text c.args.layers.start c.args.layers.end) =
    ap lines_shown c.deref-3.ensures.value ∙ c.in_ok-layers.ensures.lines in
    let same = same-sections _ _ _ _ _ _ objects legend layers in
    let header : ℕ = c.args.objects.start - 1 in
    let object_lines : List Line = lines_between text c.args.objects.start c.args.objects.end in
    let legend_lines : List Line = lines_between text c.args.legend.start c.args.legend.end in
    let layer_lines : List Line = lines_between text c.args.layers.start c.args.layers.end in
    refused-reads c.from_residual-in_err-names.result c.in_err-names.field-0.0
    (names_read object_lines legend_lines layer_lines) (name_faults header object_lines legend_lines layer_lines)
    c.from_residual-in_err-names.ensures.1
    (λ f e. ap (λ (s : NameSections). first_fault (faults_of_sections header s)) (sym same)
    ∙ c.in_err-names.ensures.1.1 f e)

pub returns-clause-reads : goal.returns-clause-reads
returns-clause-reads c =
    let text : List ℕ = c.args.source.now in
    let objects : objects_shown c.deref.result.now ≡ object_texts
    (lines_between text c.args.objects.start c.args.objects.end) =
    ap objects_shown c.deref.ensures.value ∙ c.in_ok-objects.ensures in
    let legend : lines_shown c.deref-2.result.now ≡ written_lines Legend
    (lines_between text c.args.legend.start c.args.legend.end) =
    ap lines_shown c.deref-2.ensures.value ∙ c.in_ok-legend.ensures.lines in
    let layers : lines_shown c.deref-3.result.now ≡ written_lines Layers
    (lines_between text c.args.layers.start c.args.layers.end) =
    ap lines_shown c.deref-3.ensures.value ∙ c.in_ok-layers.ensures.lines in
    let same = same-sections _ _ _ _ _ _ objects legend layers in (
      c.in_ok-names.ensures.0 ∙ ap names_of same,
      (
        ap (faults_of_sections (c.args.objects.start - 1)) (sym same) ∙ c.in_ok-names.ensures.1.0,
        tt,
      ),
    )
