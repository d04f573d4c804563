use Rattle.std.proofs.Common.{rules, ◌≡◌, ◌∙◌, ap, refl}
use Rattle.std.specs.Option.{is_none}
use Rattle.ps_model.specs.meaning.Occurrences.{bound_name}
use Rattle.ps_model.specs.rules.RuleNameFaults.{is_name_unbound}
use Rattle.ps_names.specs.Shown.{meaning_shown}
use Rattle.ps_rules.specs.RulesShown.{cell_shown}
use Rattle.ps_rules.proofs.name_faults.is_name_unbound.Goals as goal

pub returns-in-Any : goal.returns-in-Any
returns-in-Any c =
    let same : is_none (bound_name c.args.occurrences.now (cell_shown c.args.cell.now)
    (meaning_shown c.args.meaning.now))
    ≡ is_name_unbound c.args.occurrences.now (cell_shown c.args.cell.now) (meaning_shown c.args.meaning.now) =
    rw c.in-Any.is refl in
    let none : c.is_none.result ≡ is_none c.bound_name.result = search rules in
    none ∙ ap is_none c.bound_name.ensures ∙ same
