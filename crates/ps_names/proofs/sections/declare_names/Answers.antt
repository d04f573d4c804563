use Rattle.std.proofs.Common.{◌≡◌, ◌∙◌, ◌++◌, sym, ap, refl, rules, List, Some, map}
use Rattle.ps_model.specs.declared.faults.Fault.{Fault as TheFault}
use Rattle.ps_model.specs.text.WrittenLines.{WrittenLine}
use Rattle.ps_model.specs.names.ObjectLines.{ObjectText, object_names}
use Rattle.ps_model.specs.names.DeclarationFaults.{form_faults}
use Rattle.ps_model.specs.names.NameFaults.{folded_names}
use Rattle.ps_model.specs.text.Faults.{first_fault}
use Rattle.ps_model.specs.declared.refusal.Refusal.{Refusal}
use Rattle.ps_model.specs.declared.refusal.Refusal.TheVariants.{Refused}
use Rattle.ps_names.specs.Known.{Named, keys, named_object}
use Rattle.ps_names.specs.LinesShown.{objects_shown, lines_shown}
use Rattle.ps_names.specs.Sections.{known_with, known_of, legend_among, legend_of, legend_with, legend_faults}
use Rattle.ps_names.specs.Sections.{declared_of, declaring_faults}
use Rattle.ps_names.proofs.common.Pairs.{same-pair}
use Rattle.ps_names.proofs.wholes.SectionLaws.{keys-objects, mentions-known}
use Rattle.ps_names.proofs.sections.declare_names.Goals as goal

-- the names of the legend
legend-among : (objects : List ObjectText) (lines : List WrittenLine) →
    legend_among (known_of objects lines) lines ≡ legend_of objects lines
legend-among objects lines = rw (mentions-known objects lines) refl

-- the faults of the legend, by the names that the objects have
faults-among : (objects : List ObjectText) (lines : List WrittenLine) (known : List Named) →
    known ≡ map named_object (object_names objects) →
    form_faults (keys known) lines ++ legend_faults (legend_among (known_with known lines) lines)
    ≡ form_faults (folded_names objects) lines ++ legend_faults (legend_of objects lines)
faults-among objects lines known e = rw (e, keys-objects objects, legend-among objects lines) refl

pub returns-in_err-legend-clause-reads : goal.returns-in_err-legend-clause-reads
returns-in_err-legend-clause-reads c =
    let objects : List ObjectText = objects_shown c.args.objects.now in
    let lines : List WrittenLine = lines_shown c.args.lines.now in
    let known : List Named = c.in_ok-known.known in
    let fault : Refusal = c.in_err-legend.field-0.0 in
    let told : (f : TheFault) → fault ≡ Refused f → first_fault (declaring_faults objects lines) ≡ Some f =
    λ f e. rw (c.in_ok-known.ensures.reads.1.0)
    (ap first_fault (sym (faults-among objects lines known c.in_ok-known.ensures.reads.0))
    ∙ c.in_err-legend.ensures.reads.1.1 f e) in
    search (rules, told)

pub returns-clause-reads : goal.returns-clause-reads
returns-clause-reads c =
    let objects : List ObjectText = objects_shown c.args.objects.now in
    let lines : List WrittenLine = lines_shown c.args.lines.now in
    let known : List Named = c.in_ok-known.known in
    let named = c.in_ok-known.ensures.reads.0 in
    let with = c.in_ok-legend.ensures.known ∙ ap (λ (names : List Named). known_with names lines) named in
    let legend = ap (λ (names : List Named). legend_with (legend_among (known_with names lines) lines)) named
    ∙ ap legend_with (legend-among objects lines) in
    let faults = sym (faults-among objects lines known named) ∙ c.in_ok-legend.ensures.reads.1.0 in (
      same-pair _ (declared_of objects lines) with (c.in_ok-legend.ensures.reads.0 ∙ legend),
      (rw (c.in_ok-known.ensures.reads.1.0) faults, tt),
    )
