use Rattle.std.proofs.Common.{refl}
use Rattle.ps_board.specs.ColumnSets.{set_columns}
use Rattle.ps_places.proofs.TargetColumns.{paired-following, paired-none}
use Rattle.ps_places.proofs.targets.behind_first.Goals as goal

pub returns-in_default : goal.returns-in_default
returns-in_default g c =
    paired-none c.args.size c.args.fronts c.args.backs c.none.result (c.in_default.ensures.none refl) c.none.ensures

pub returns : goal.returns
returns g c =
    paired-following c.args.size c.args.fronts c.args.backs c.not_below.result c.in-Some.first
    (set_columns c.take_first.new.self) c.in-Some.ensures.some c.not_below.ensures
