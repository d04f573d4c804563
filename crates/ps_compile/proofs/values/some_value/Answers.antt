use Rattle.std.proofs.Common.{◌∙◌, ap, sym, List}
use Rattle.std.specs.Prelude.{find}
use Rattle.std.specs.Option.{option_map}
use Rattle.std.specs.List.{list_all, list_any}
use Rattle.ps_model.specs.declared.compiled.LayeredObject.{LayeredObject}
use Rattle.ps_program.specs.ProgramShown.{cell_shown}
use Rattle.ps_compile.specs.LayerValues.{lies_on}
use Rattle.ps_compile.specs.Claims.{is_claim_passing}
use Rattle.ps_compile.proofs.LayerValues.{some-needed, some-listed}
use Rattle.ps_compile.proofs.values.some_value.Goals as goal

pub returns-then-some_lies_on : goal.returns-then-some_lies_on
returns-then-some_lies_on c =
    c.some_claim.ensures
    ∙ ap (list_any (is_claim_passing c.args.names.now (cell_shown c.args.cell.now) c.args.changed c.args.layer.0))
    c.as_slice-needed.ensures
    ∙ some-needed c.args.names.now (cell_shown c.args.cell.now) c.args.changed c.args.layer.0
    (ap (list_any (lies_on c.args.layer.0)) (sym c.as_slice-needed.ensures)
    ∙ sym c.some_lies_on.ensures ∙ c.if-some_lies_on.true)

pub returns-in-Some : goal.returns-in-Some
returns-in-Some c =
    some-listed c.args.names.now (cell_shown c.args.cell.now) c.args.changed c.args.layer.0 c.in-Some.some
    (ap (λ (lists : List (List LayeredObject)).
    option_map (list_any (is_claim_passing c.args.names.now (cell_shown c.args.cell.now) c.args.changed c.args.layer.0))
    (find (list_all (lies_on c.args.layer.0)) lists)) (sym c.as_slice-lists.ensures)
    ∙ sym c.some_of_list.ensures ∙ c.in-Some.is)
