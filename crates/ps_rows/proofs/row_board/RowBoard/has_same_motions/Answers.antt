use Rattle.std.proofs.lemmas.Bool.{false≢true}
use Rattle.ps_rows.specs.PlaneTopics.{IsPlaneOfBoth}
use Rattle.ps_rows.specs.Showing.{motions_from}
use Rattle.ps_rows.proofs.Passed.{motion_below, motions_all, motions_more, no_motions}
use Rattle.ps_rows.proofs.row_board.RowBoard.has_same_motions.Goals as goal

pub loop-motion-init : goal.loop-motion-init
loop-motion-init g c =
    let p = c.args.self.now.planes in
    no_motions (IsPlaneOfBoth p.height p.words.items c.args.other.now.planes.words.items) c.motions_from-first.result 0

pub has_same_plane-requires : goal.has_same_plane-requires
has_same_plane-requires g c =
    let b = c.args.self.now in
    record {
      height = c.requires.height;
      layers = c.requires.layers;
      table = c.requires.table;
      plane = motion_below b.members.table.items b.layers c.args.layer c.motions_from-first.result c.loop-motion.motion
          c.motions_from-first.ensures.first c.requires.layer c.loop-motion-test.true;
    }

pub loop-motion-preserved : goal.loop-motion-preserved
loop-motion-preserved g c =
    let p = c.args.self.now.planes in
    motions_more (IsPlaneOfBoth p.height p.words.items c.args.other.now.planes.words.items) c.motions_from-first.result
    c.loop-motion.motion c.loop-motion.invariant (c.has_same_plane.ensures c.if-not-has_same_plane.false)

pub returns-then-not-has_same_plane : goal.returns-then-not-has_same_plane
returns-then-not-has_same_plane g c = λ told. absurd (false≢true told)

pub returns : goal.returns
returns g c = λ told.
    let b = c.args.self.now in
    motions_all (IsPlaneOfBoth b.planes.height b.planes.words.items c.args.other.now.planes.words.items)
    c.motions_from-first.result c.loop-motion.motion (motions_from b.members.table.items c.args.layer)
    c.motions_from-first.ensures.first c.loop-motion-test.false c.loop-motion.invariant
