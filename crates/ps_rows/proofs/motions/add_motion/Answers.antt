use Rattle.std.proofs.Common.{◌≡◌, ◌∙◌, None, ap, sym, Option, ℕ}
use Rattle.ps_rows.specs.Planes.{with_cell_in}
use Rattle.ps_rows.specs.Showing.{motion_plane, motion_planes}
use Rattle.ps_rows.proofs.Untouched.{five_alone, five_stay}
use Rattle.ps_rows.proofs.motions.add_motion.Goals as goal

pub returns-in-Some-clause-words : goal.returns-in-Some-clause-words
returns-in-Some-clause-words g c =
    let p = c.args.planes.now in
    c.put_cell.ensures.words
    ∙ five_alone p.height c.args.cell c.args.first c.args.motion c.in-Some.plane p.words.items p.some_row
    (sym c.motion_plane.ensures ∙ c.in-Some.is) c.requires.rest

pub returns-in_default-clause-words : goal.returns-in_default-clause-words
returns-in_default-clause-words g c =
    let p = c.args.planes.now in
    let none : motion_plane c.args.first c.args.motion ≡ None = sym c.motion_plane.ensures ∙ c.in_default.is in
    five_stay p.height c.args.cell c.args.first p.words.items c.requires.rest
    ∙ ap (λ (chosen : Option ℕ). with_cell_in p.height c.args.cell chosen p.words.items (motion_planes c.args.first))
    (sym none)
