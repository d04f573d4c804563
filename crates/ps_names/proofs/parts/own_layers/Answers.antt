use Rattle.std.proofs.Common.{◌≡◌, ◌∙◌, sym, ap, refl, List, ℕ, Option, length}
use Rattle.std.proofs.lemmas.List.{length-map}
use Rattle.ps_model.specs.names.DeclarationFaults.{layer_faults}
use Rattle.ps_model.specs.names.LayerLines.{Layer, layers_found}
use Rattle.ps_model.specs.names.Meanings.{LegendName}
use Rattle.ps_model.specs.names.Names.{Meaning}
use Rattle.ps_model.specs.names.NamesRead.{layer_numbers}
use Rattle.ps_model.specs.names.ObjectLines.{ObjectText}
use Rattle.ps_model.specs.text.Faults.{first_fault}
use Rattle.ps_model.specs.text.WrittenLines.{WrittenLine}
use Rattle.ps_laws.proofs.common.FirstFaults.{first-front, behind-none}
use Rattle.ps_laws.proofs.texts.BoundedNames.{length-found}
use Rattle.ps_names.specs.LinesShown.{objects_shown, object_shown, lines_shown}
use Rattle.ps_names.specs.Parts.{layers_over, whole_over, faults_over, own_layers_of, own_layers_seen}
use Rattle.ps_names.specs.Sections.{faults_of_whole}
use Rattle.ps_names.specs.NamesShown.{layer_numbers_shown}
use Rattle.ps_names.specs.SectionsShown.{legend_seen}
use Rattle.ps_names.specs.Tables.{entries_with}
use Rattle.ps_names.proofs.common.FirstFaults.{no-first}
use Rattle.ps_names.proofs.common.Refused.{refused-reads-as}
use Rattle.ps_names.proofs.common.Pairs.{first-part, second-part, same-pair}
use Rattle.ps_names.proofs.parts.own_layers.Goals as goal

-- the faults of the whole, where these are the places and the numbers of the layers
whole-of : (header : ℕ) (objects : List ObjectText) (legend : List LegendName × List (Option Meaning))
    (entries : List (List ℕ × Meaning)) (layers : List Layer) (places : List (Option ℕ)) (numbers : List ℕ) →
    places ≡ layers_found (length objects) layers → numbers ≡ layer_numbers places →
    faults_of_whole header objects places legend.0 legend.1 entries numbers
    ≡ whole_over header objects legend entries layers
whole-of header objects legend entries layers places numbers p n = rw (n, p) refl

pub returns-in_err-layering-clause-reads : goal.returns-in_err-layering-clause-reads
returns-in_err-layering-clause-reads c =
    let objects : List ObjectText = objects_shown c.args.objects.now in
    let lines : List WrittenLine = lines_shown c.args.lines.now in
    let legend : List LegendName × List (Option Meaning) = legend_seen c.args.legend.now in
    refused-reads-as own_layers_seen c.from_residual.result c.in_err-layering.field-0.0
    (own_layers_of c.args.table.now objects lines) (faults_over c.args.header c.args.table.now objects legend lines)
    c.from_residual.ensures.1
    (λ f e. first-front (layer_faults (layers_over c.args.table.now lines)) _ f
    (c.in_err-layering.ensures.reads.1.1 f e))

pub fault_of_whole-requires-clause-places : goal.fault_of_whole-requires-clause-places
fault_of_whole-requires-clause-places c =
    ap length (c.deref-2.ensures.value ∙ first-part c.in_ok-layering.ensures.reads.0)
    ∙ length-found (length c.args.objects.now) (layers_over c.args.table.now (lines_shown c.args.lines.now))

pub returns-in_err-refuse-clause-reads : goal.returns-in_err-refuse-clause-reads
returns-in_err-refuse-clause-reads c =
    let objects : List ObjectText = objects_shown c.args.objects.now in
    let layers : List Layer = layers_over c.args.table.now (lines_shown c.args.lines.now) in
    let count : length c.args.objects.now ≡ length objects = sym (length-map c.args.objects.now object_shown) in
    let placed : c.deref-2.result.now ≡ layers_found (length objects) layers =
    c.deref-2.ensures.value ∙ first-part c.in_ok-layering.ensures.reads.0
    ∙ ap (λ (n : ℕ). layers_found n layers) count in
    let numbers : c.in_ok-numbers.numbers.items ≡ layer_numbers c.deref-2.result.now =
    c.in_ok-numbers.ensures ∙ ap layer_numbers (c.deref.ensures.value ∙ sym c.deref-2.ensures.value) in
    let whole = whole-of c.args.header objects (legend_seen c.args.legend.now) (entries_with c.args.table.now) layers
    _ _ placed (c.deref-3.ensures.value ∙ numbers) in
    let behind = behind-none (layer_faults layers) (whole_over c.args.header objects (legend_seen c.args.legend.now)
    (entries_with c.args.table.now) layers) c.in_ok-layering.ensures.reads.1.0 in
    let lines : List WrittenLine = lines_shown c.args.lines.now in
    refused-reads-as own_layers_seen c.from_residual-in_err-refuse.result c.in_err-refuse.field-0.0
    (own_layers_of c.args.table.now objects lines)
    (faults_over c.args.header c.args.table.now objects (legend_seen c.args.legend.now) lines)
    c.from_residual-in_err-refuse.ensures.1
    (λ f e. ap first_fault (behind ∙ sym whole) ∙ sym c.fault_of_whole.ensures
    ∙ c.in_err-refuse.ensures.refused f e)

pub returns-clause-reads : goal.returns-clause-reads
returns-clause-reads c =
    let objects : List ObjectText = objects_shown c.args.objects.now in
    let layers : List Layer = layers_over c.args.table.now (lines_shown c.args.lines.now) in
    let count : length c.args.objects.now ≡ length objects = sym (length-map c.args.objects.now object_shown) in
    let placed : c.deref-2.result.now ≡ layers_found (length objects) layers =
    c.deref-2.ensures.value ∙ first-part c.in_ok-layering.ensures.reads.0
    ∙ ap (λ (n : ℕ). layers_found n layers) count in
    let numbers : c.in_ok-numbers.numbers.items ≡ layer_numbers c.deref-2.result.now =
    c.in_ok-numbers.ensures ∙ ap layer_numbers (c.deref.ensures.value ∙ sym c.deref-2.ensures.value) in
    let whole = whole-of c.args.header objects (legend_seen c.args.legend.now) (entries_with c.args.table.now) layers
    _ _ placed (c.deref-3.ensures.value ∙ numbers) in
    let behind = behind-none (layer_faults layers) (whole_over c.args.header objects (legend_seen c.args.legend.now)
    (entries_with c.args.table.now) layers) c.in_ok-layering.ensures.reads.1.0 in
    let own : layer_numbers_shown c.in_ok-layers.layers.items ≡ layer_numbers (layers_found (length objects) layers) =
    c.in_ok-layers.ensures ∙ c.deref-4.ensures.value ∙ numbers ∙ ap layer_numbers placed in (
      same-pair (own_layers_seen (record { layers = c.in_ok-layers.layers; count = c.in_ok-layering.layering.count }))
          (own_layers_of c.args.table.now objects (lines_shown c.args.lines.now)) own
          (second-part c.in_ok-layering.ensures.reads.0),
      (behind ∙ sym whole ∙ no-first _ (sym c.in_ok-refuse.ensures.fine ∙ c.fault_of_whole.ensures), tt),
    )
