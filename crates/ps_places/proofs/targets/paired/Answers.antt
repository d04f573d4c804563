use Rattle.std.proofs.Common.{◌≡◌, false, true, sym, rules, subst, Bool}
use Rattle.ps_places.specs.PartTargets.{is_paired}
use Rattle.ps_places.specs.Starts.{AreWhere}
use Rattle.ps_places.proofs.TargetColumns.{paired-leading}
use Rattle.ps_places.proofs.targets.paired.Goals as goal

pub returns-then-leads : goal.returns-then-leads
returns-then-leads g c =
    let yes : c.args.leads ≡ true = search rules in
    subst (λ (leads : Bool). AreWhere (is_paired leads c.args.size c.args.fronts c.args.backs) c.both.result) (sym yes)
    (paired-leading c.args.size c.args.fronts c.args.backs c.up_to.result c.behind.result c.both.result
    c.up_to.ensures c.behind.ensures c.both.ensures)

pub returns-else-leads : goal.returns-else-leads
returns-else-leads g c =
    let no : c.args.leads ≡ false = search rules in
    subst (λ (leads : Bool). AreWhere (is_paired leads c.args.size c.args.fronts c.args.backs)
    c.behind_first.result) (sym no) c.behind_first.ensures
