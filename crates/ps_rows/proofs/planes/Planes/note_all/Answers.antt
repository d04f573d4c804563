use Rattle.std.proofs.Common.{◌≡◌, ◌∙◌, ℕ, ap, sym}
use Rattle.ps_rows.specs.UsedPlanes.{sets_for}
use Rattle.ps_rows.proofs.UsedPlanes.{counts_same}
use Rattle.ps_rows.proofs.planes.Planes.note_all.Goals as goal

pub join-requires : goal.join-requires
join-requires g c =
    let p = c.args.self.now in
    let o = c.args.other.now in
    let same : o.index.len ≡ p.index.len = counts_same o.index.len p.index.len o.height p.height o.words.len p.words.len
    p.some_row o.whole p.whole c.requires.height c.requires.count in
    o.room ∙ ap sets_for same ∙ sym p.room

pub invariant_of-self-clause-noted : goal.invariant_of-self-clause-noted
invariant_of-self-clause-noted g c = λ many plane row below low off.
    c.args.self.now.noted many plane row below low (c.join.ensures.kept plane off)

pub invariant_of-self-clause-room : goal.invariant_of-self-clause-room
invariant_of-self-clause-room g c = c.join.ensures.long ∙ c.args.self.now.room
