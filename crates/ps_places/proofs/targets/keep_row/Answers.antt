use Rattle.std.proofs.Common.{refl}
use Rattle.ps_places.proofs.TargetColumns.{row-kept}
use Rattle.ps_places.proofs.targets.keep_row.Goals as goal

pub returns-clause-kept : goal.returns-clause-kept
returns-clause-kept g c =
    row-kept c.args.rows c.args.starts.now c.args.row c.args.columns c.with.result _ c.is_empty.result
    c.requires.within c.requires.room c.is_empty.ensures.none c.is_empty.ensures.some c.with.ensures refl
