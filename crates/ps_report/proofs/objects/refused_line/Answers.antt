use Rattle.std.proofs.Common.{◌∙◌, List, ap, map, subst}
use Rattle.std.specs.Prelude.{string_bytes}
use Rattle.serde_json.specs.Data.{Data}
use Rattle.serde_json.specs.View.{view}
use Rattle.serde_json.specs.declared.value.Value.{Value}
use Rattle.ps_model.specs.declared.faults.Fault.{Fault as TheFault}
use Rattle.ps_report.specs.Objects.{IsFaultTold}
use Rattle.ps_report.specs.Objects.{object_with}
use Rattle.ps_report.specs.Pages.{StandFor}
use Rattle.ps_report.specs.Preludes.{said_by}
use Rattle.ps_report.specs.ToldWarnings.{last_members}
use Rattle.ps_report.proofs.ObjectsMade.{refused_line_made, refused_made}
use Rattle.ps_report.proofs.objects.refused_line.Goals as goal

pub returns : goal.returns
returns c =
    let shown : List Data = map view c.in_ok-faults.faults.items in
    refused_line_made c.args.how c.args.name.now c.args.text.now c.args.told.now shown (view c.in_ok-object.object)
    (string_bytes c.in_ok-line.line)
    (subst (λ (faults : List TheFault). StandFor (IsFaultTold c.args.text.now) faults shown)
    c.first_faults-shown.ensures c.in_ok-faults.ensures)
    (refused_made c.args.how c.args.name.now c.args.text.now c.args.told.now shown c.refused_parts.result.complete
    c.refused_parts.result.ok (view c.refused_parts.result.counts) (view c.refused_parts.result.levels)
    (view c.in_ok-object.object) (c.refused_parts.ensures.complete ∙ c.are_few-complete.ensures)
    c.refused_parts.ensures.counts c.refused_parts.ensures.levels c.refused_parts.ensures.ok
    (c.in_ok-object.ensures ∙ ap (λ (values : List Value). object_with (said_by c.args.text.now)
    c.refused_parts.result.complete (view c.refused_parts.result.counts) (map view values) c.args.name.now
    (view c.refused_parts.result.levels) c.refused_parts.result.ok (last_members c.args.how c.args.text.now))
    c.refused_parts.ensures.faults))
    c.in_ok-line.ensures
