use Rattle.std.proofs.Common.{◌∙◌, refl, sym}
use Rattle.std.proofs.lemmas.Bool.{false≢true}
use Rattle.ps_rows.specs.Sameness.{IsSamePlaneOn}
use Rattle.ps_rows.proofs.Marks.{listed_at}
use Rattle.ps_rows.proofs.Passed.{next_whole, passed_each, passed_one}
use Rattle.ps_rows.proofs.sameness.same_planes_on.Goals as goal

pub loop-plane-init : goal.loop-plane-init
loop-plane-init g c = λ plane none. absurd (false≢true none)

pub loop-plane-preserved : goal.loop-plane-preserved
loop-plane-preserved g c =
    let p = c.args.first.now in
    passed_one (IsSamePlaneOn c.args.width p.height c.args.rows p.words.items c.args.second.now.words.items)
    c.args.planes.now c.loop-plane.plane-index c.loop-plane-test.true c.loop-plane.invariant
    (c.same_plane_on.ensures.same c.if-not-same_plane_on.false)

pub same_plane_on-requires-clause-first : goal.same_plane_on-requires-clause-first
same_plane_on-requires-clause-first g c =
    let p = c.args.first.now in
    next_whole p.height p.words.len p.words.items c.args.planes.now c.loop-plane.plane-index p.words.ok.0
    c.loop-plane-test.true c.requires.first

pub same_plane_on-requires-clause-second : goal.same_plane_on-requires-clause-second
same_plane_on-requires-clause-second g c =
    let o = c.args.second.now in
    next_whole c.args.first.now.height o.words.len o.words.items c.args.planes.now c.loop-plane.plane-index
    o.words.ok.0 c.loop-plane-test.true c.requires.second

pub returns-then-not-same_plane_on-clause-same : goal.returns-then-not-same_plane_on-clause-same
returns-then-not-same_plane_on-clause-same g c = λ told. absurd (false≢true told)

pub returns-then-not-same_plane_on-clause-other : goal.returns-then-not-same_plane_on-clause-other
returns-then-not-same_plane_on-clause-other g c = λ same.
    sym c.if-not-same_plane_on.true ∙ c.same_plane_on.ensures.other
    (same _ (listed_at c.args.planes.now c.loop-plane.plane-index 0 c.loop-plane-test.true))

pub returns-clause-same : goal.returns-clause-same
returns-clause-same g c = λ told.
    let p = c.args.first.now in
    passed_each (IsSamePlaneOn c.args.width p.height c.args.rows p.words.items c.args.second.now.words.items)
    c.args.planes.now c.loop-plane.plane-index c.loop-plane-test.false c.loop-plane.invariant

pub returns-clause-other : goal.returns-clause-other
returns-clause-other g c = λ same. refl
