use Rattle.std.proofs.Common.{refl, sym}
use Rattle.ps_rows.specs.Showing.{motion_planes}
use Rattle.ps_rows.proofs.RowChanges.{motions_whole}
use Rattle.ps_rows.proofs.changes.change_five.Goals as goal

pub change_rows-requires-clause-planes : goal.change_rows-requires-clause-planes
change_rows-requires-clause-planes g c =
    let p = c.args.planes.now in
    motions_whole p.height p.words.len c.args.first (motion_planes c.args.first) refl c.requires.motions p.words.items
    (sym p.words.ok.0)
