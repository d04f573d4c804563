use Rattle.std.proofs.Common.{◌≡◌, ap, sym, rules, false, codes}
use Rattle.std.specs.Str.{bytes_eq}
use Rattle.std.specs.Map.{lookup}
use Rattle.ps_model.specs.declared.faults.FaultKind.TheVariants.{BadPlayer}
use Rattle.ps_model.specs.text.Faults.{first_fault}
use Rattle.ps_model.specs.names.Meanings.{is_aggregate}
use Rattle.ps_names.specs.LegendNames.{legend_shown}
use Rattle.ps_names.specs.Tables.{entries_with}
use Rattle.ps_names.specs.Wholes.{lines_of_name}
use Rattle.ps_names.proofs.wholes.WholeSteps.{nothing-bad}
use Rattle.ps_names.proofs.whole.fault_of_player.Goals as goal

pub returns-then-not-is_aggregate : goal.returns-then-not-is_aggregate
returns-then-not-is_aggregate c =
    let good : is_aggregate (lookup (bytes_eq (codes "player")) (entries_with c.args.table.now)) ≡ false =
    search rules in
    sym (ap first_fault (nothing-bad _ BadPlayer (lines_of_name (legend_shown c.args.legend.now) (codes "player"))
    good))
