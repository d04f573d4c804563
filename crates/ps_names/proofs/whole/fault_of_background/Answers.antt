use Rattle.std.proofs.Common.{◌≡◌, ap, sym, rules, false, codes}
use Rattle.std.specs.Str.{bytes_eq}
use Rattle.std.specs.Map.{lookup}
use Rattle.ps_model.specs.declared.faults.FaultKind.TheVariants.{BadBackground}
use Rattle.ps_model.specs.text.Faults.{first_fault}
use Rattle.ps_model.specs.names.NameFaults.{is_bad_background}
use Rattle.ps_names.specs.LegendNames.{legend_shown}
use Rattle.ps_names.specs.Tables.{entries_with}
use Rattle.ps_names.specs.Wholes.{lines_of_name}
use Rattle.ps_names.proofs.wholes.WholeSteps.{nothing-bad}
use Rattle.ps_names.proofs.whole.fault_of_background.Goals as goal

pub returns-then-not-is_bad_background : goal.returns-then-not-is_bad_background
returns-then-not-is_bad_background c =
    let good : is_bad_background c.args.layers.now
    (lookup (bytes_eq (codes "background")) (entries_with c.args.table.now)) ≡ false = search rules in
    sym (ap first_fault (nothing-bad _ BadBackground
    (lines_of_name (legend_shown c.args.legend.now) (codes "background")) good))
