use Rattle.std.proofs.Common.{◌≡◌, ◌∙◌, ◌≤◌, sym, ap, subst, List, ℕ, Option, length}
use Rattle.std.proofs.lemmas.List.{length-map}
use Rattle.ps_model.specs.declared.limits.TheConstants.{OBJECT_LIMIT, LAYER_LIMIT}
use Rattle.ps_model.specs.text.Faults.{first_fault}
use Rattle.ps_model.specs.names.Names.{Meaning, Names}
use Rattle.ps_model.specs.names.NameBounds.{AreBounded}
use Rattle.ps_model.specs.text.WrittenLines.{WrittenLine}
use Rattle.ps_model.specs.names.ObjectLines.{ObjectText}
use Rattle.ps_model.specs.names.NamesRead.{sections_of, names_of}
use Rattle.ps_model.specs.names.NameFaults.{faults_of_sections}
use Rattle.ps_laws.proofs.common.FirstFaults.{first-front}
use Rattle.ps_laws.proofs.texts.BoundedNames.{few-bounded}
use Rattle.ps_names.specs.declared.meaning.Meaning as code
use Rattle.ps_names.specs.LinesShown.{objects_shown, object_shown, lines_shown}
use Rattle.ps_names.specs.LegendNames.{name_shown}
use Rattle.ps_names.specs.MeaningSteps.{meaning_shown_if, meanings_shown}
use Rattle.ps_names.specs.Parts.{names_with}
use Rattle.ps_names.specs.Sections.{legend_of, legend_with, declaring_faults}
use Rattle.ps_names.specs.SectionsShown.{legend_seen}
use Rattle.ps_names.specs.Tables.{with_meanings}
use Rattle.ps_names.proofs.common.Refused.{refused-reads}
use Rattle.ps_names.proofs.common.Pairs.{first-part, second-part}
use Rattle.ps_names.proofs.wholes.Reading.{table_here, table-made, length-meanings}
use Rattle.ps_names.proofs.wholes.Reading.{faults-here, faults-made, names-made, all-on-layers}
use Rattle.ps_names.proofs.read.names_of_sections.Goals as goal

pub returns-in_err-declared : goal.returns-in_err-declared
returns-in_err-declared c =
    let objects : List ObjectText = objects_shown c.args.objects.now in
    let lines : List WrittenLine = lines_shown c.args.legend_lines.now in
    let layer_lines : List WrittenLine = lines_shown c.args.layer_lines.now in
    refused-reads c.from_residual.result c.in_err-declared.field-0.0 (names_of (sections_of objects lines layer_lines))
    (faults_of_sections c.args.header (sections_of objects lines layer_lines)) c.from_residual.ensures.1
    (λ f e. ap first_fault (sym (faults-here objects lines layer_lines c.args.header))
    ∙ first-front (declaring_faults objects lines) _ f (c.in_err-declared.ensures.reads.1.1 f e))

pub parts_of-requires : goal.parts_of-requires
parts_of-requires c =
    let objects : List ObjectText = objects_shown c.args.objects.now in
    let lines : List WrittenLine = lines_shown c.args.legend_lines.now in
    sym (length-map c.in_ok-declared.declared.legend.meanings.items meaning_shown_if)
    ∙ ap length (second-part (second-part c.in_ok-declared.ensures.reads.0))
    ∙ length-meanings (legend_of objects lines)
    ∙ ap length (sym (first-part (second-part c.in_ok-declared.ensures.reads.0)))
    ∙ length-map c.in_ok-declared.declared.legend.names.items name_shown

pub returns-in_err-parts : goal.returns-in_err-parts
returns-in_err-parts c =
    let objects : List ObjectText = objects_shown c.args.objects.now in
    let lines : List WrittenLine = lines_shown c.args.legend_lines.now in
    let layer_lines : List WrittenLine = lines_shown c.args.layer_lines.now in
    let declared = c.in_ok-declared.ensures.reads in
    let table : c.in_ok-table.table ≡ table_here objects lines layer_lines =
    table-made objects lines layer_lines c.in_ok-declared.declared.known _ c.in_ok-table.table
    (c.in_ok-table.ensures ∙ ap (λ (ms : List (Option code.Meaning)).
    with_meanings (meanings_shown ms) c.in_ok-declared.declared.known) c.deref.ensures.value)
    (first-part declared.0) (second-part (second-part declared.0)) in
    let legend : legend_seen c.in_ok-declared.declared.legend ≡ legend_with (legend_of objects lines) =
    second-part declared.0 in
    let faults = faults-made objects lines layer_lines c.args.header c.in_ok-table.table
    (legend_seen c.in_ok-declared.declared.legend) table legend declared.1.0 in
    refused-reads c.from_residual-in_err-parts.result c.in_err-parts.field-0.0
    (names_of (sections_of objects lines layer_lines))
    (faults_of_sections c.args.header (sections_of objects lines layer_lines)) c.from_residual-in_err-parts.ensures.1
    (λ f e. ap first_fault faults ∙ c.in_err-parts.ensures.reads.1.1 f e)

pub returns : goal.returns
returns c =
    let objects : List ObjectText = objects_shown c.args.objects.now in
    let lines : List WrittenLine = lines_shown c.args.legend_lines.now in
    let layer_lines : List WrittenLine = lines_shown c.args.layer_lines.now in
    let declared = c.in_ok-declared.ensures.reads in
    let table : c.in_ok-table.table ≡ table_here objects lines layer_lines =
    table-made objects lines layer_lines c.in_ok-declared.declared.known _ c.in_ok-table.table
    (c.in_ok-table.ensures ∙ ap (λ (ms : List (Option code.Meaning)).
    with_meanings (meanings_shown ms) c.in_ok-declared.declared.known) c.deref.ensures.value)
    (first-part declared.0) (second-part (second-part declared.0)) in
    let legend : legend_seen c.in_ok-declared.declared.legend ≡ legend_with (legend_of objects lines) =
    second-part declared.0 in
    let faults = faults-made objects lines layer_lines c.args.header c.in_ok-table.table
    (legend_seen c.in_ok-declared.declared.legend) table legend declared.1.0 in (
      names-made objects lines layer_lines (names_with c.in_ok-table.table c.in_ok-parts.parts)
          c.in_ok-table.table table
          c.in_ok-parts.ensures.reads.0,
      (faults ∙ c.in_ok-parts.ensures.reads.1.0, tt),
    )

pub invariant_of-result : goal.invariant_of-result
invariant_of-result c =
    let objects : List ObjectText = objects_shown c.args.objects.now in
    let lines : List WrittenLine = lines_shown c.args.legend_lines.now in
    let layer_lines : List WrittenLine = lines_shown c.args.layer_lines.now in
    let declared = c.in_ok-declared.ensures.reads in
    let table : c.in_ok-table.table ≡ table_here objects lines layer_lines =
    table-made objects lines layer_lines c.in_ok-declared.declared.known _ c.in_ok-table.table
    (c.in_ok-table.ensures ∙ ap (λ (ms : List (Option code.Meaning)).
    with_meanings (meanings_shown ms) c.in_ok-declared.declared.known) c.deref.ensures.value)
    (first-part declared.0) (second-part (second-part declared.0)) in
    let names : Names = names_with c.in_ok-table.table c.in_ok-parts.parts in
    let made : names ≡ names_of (sections_of objects lines layer_lines) =
    names-made objects lines layer_lines names c.in_ok-table.table table c.in_ok-parts.ensures.reads.0 in
    let on = all-on-layers objects lines layer_lines c.args.header c.in_ok-table.table
    (legend_seen c.in_ok-declared.declared.legend) table c.in_ok-parts.ensures.reads.1.0 in
    let few : length objects ≤ OBJECT_LIMIT = subst (λ (n : ℕ). n ≤ OBJECT_LIMIT)
    (sym (length-map c.args.objects.now object_shown)) c.in_ok-declared.ensures.few in
    let few_layers : length (sections_of objects lines layer_lines).layers ≤ LAYER_LIMIT =
    subst (λ (n : ℕ). n ≤ LAYER_LIMIT) (ap (λ (n : Names). n.layer_count) made) c.in_ok-parts.ensures.few in
    record {
      bounded = subst AreBounded (sym made) (few-bounded objects lines layer_lines few few_layers on);
      players_kept = c.in_ok-parts.ensures.players;
      backgrounds_kept = c.in_ok-parts.ensures.backgrounds;
    }
