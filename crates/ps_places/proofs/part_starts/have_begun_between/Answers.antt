use Rattle.ps_places.proofs.HaveBegun.{none_begun}
use Rattle.ps_places.proofs.part_starts.have_begun_between.Goals as goal

pub returns-then-are_empty : goal.returns-then-are_empty
returns-then-are_empty g c =
    none_begun c.args.rows c.args.starts.now (λ row low on.
    let at = c.requires.between row on in
    c.are_empty.ensures c.if-are_empty.true row at.0 at.1)
