use Rattle.std.proofs.Common.{◌∙◌, refl, sym}
use Rattle.ps_rows.proofs.Marks.{listed_at}
use Rattle.ps_rows.proofs.Passed.{next_whole}
use Rattle.ps_rows.proofs.sameness.differ_soon.Goals as goal

pub differs_first-requires-clause-first : goal.differs_first-requires-clause-first
differs_first-requires-clause-first g c =
    let p = c.args.first.now in
    next_whole p.height p.words.len p.words.items c.args.planes.now c.loop-plane.plane-index p.words.ok.0
    c.loop-plane-test.true c.requires.first

pub differs_first-requires-clause-second : goal.differs_first-requires-clause-second
differs_first-requires-clause-second g c =
    let o = c.args.second.now in
    next_whole c.args.first.now.height o.words.len o.words.items c.args.planes.now c.loop-plane.plane-index
    o.words.ok.0 c.loop-plane-test.true c.requires.second

pub returns-then-differs_first : goal.returns-then-differs_first
returns-then-differs_first g c = λ same.
    sym c.if-differs_first.true ∙ c.differs_first.ensures
    (same _ (listed_at c.args.planes.now c.loop-plane.plane-index 0 c.loop-plane-test.true))

pub returns : goal.returns
returns g c = λ same. refl
