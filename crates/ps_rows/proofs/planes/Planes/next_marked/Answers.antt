use Rattle.std.proofs.Common.{◌≡◌, ◌∙◌, ◌+◌, ◌*◌, ◌/◌, ◌<◌, ◌≤◌, ℕ, sym, subst, arith}
use Rattle.ps_rows.specs.RowIndex.{AreRowsMarked}
use Rattle.ps_rows.proofs.BlankPlanes.{blank_unnoted}
use Rattle.ps_rows.proofs.Passed.{planes_counted}
use Rattle.ps_rows.proofs.UsedPlanes.{planes_below}
use Rattle.ps_rows.proofs.planes.Planes.next_marked.Goals as goal

pub next-requires-clause-here : goal.next-requires-clause-here
next-requires-clause-here g c =
    let p = c.args.self.now in
    let counted : c.args.planes ≤ p.index.len =
    planes_counted p.height c.args.planes p.index.len p.words.len p.some_row p.whole c.requires.here in
    planes_below c.args.planes p.index.len p.used.words.len (omega (arith, counted, c.requires.many)) counted p.room

pub next-requires-clause-there : goal.next-requires-clause-there
next-requires-clause-there g c =
    let o = c.args.other.now in
    let E : ℕ → Type 0 = λ h. c.args.planes * h ≤ o.words.len in
    let counted : c.args.planes ≤ o.index.len =
    planes_counted o.height c.args.planes o.index.len o.words.len o.some_row o.whole
    (subst E (sym c.requires.height) c.requires.there) in
    planes_below c.args.planes o.index.len o.used.words.len (omega (arith, counted, c.requires.many)) counted o.room

pub returns-clause-here : goal.returns-clause-here
returns-clause-here g c =
    let p = c.args.self.now in
    let counted : c.args.planes ≤ p.index.len =
    planes_counted p.height c.args.planes p.index.len p.words.len p.some_row p.whole c.requires.here in
    blank_unnoted p.index.len p.height c.args.from c.next.result p.words.items p.index.items p.used.words.items p.rows
    (omega (arith, c.next.ensures.few, counted)) p.marked (p.noted (omega (arith, counted, c.requires.many)))
    (λ plane low high. (c.next.ensures.none plane low high).0)

pub returns-clause-there : goal.returns-clause-there
returns-clause-there g c =
    let p = c.args.self.now in
    let o = c.args.other.now in
    let E : ℕ → Type 0 = λ h. c.args.planes * h ≤ o.words.len in
    let counted : c.args.planes ≤ o.index.len =
    planes_counted o.height c.args.planes o.index.len o.words.len o.some_row o.whole
    (subst E (sym c.requires.height) c.requires.there) in
    let M : ℕ → Type 0 = λ h. AreRowsMarked o.index.len h o.words.items o.index.items in
    blank_unnoted o.index.len p.height c.args.from c.next.result o.words.items o.index.items o.used.words.items p.rows
    (omega (arith, c.next.ensures.few, counted)) (subst M c.requires.height o.marked)
    (o.noted (omega (arith, counted, c.requires.many)))
    (λ plane low high. (c.next.ensures.none plane low high).1)
