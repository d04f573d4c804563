use Rattle.std.proofs.Common.{◌≡◌, ◌∙◌, ℕ, ◌+◌, ◌*◌, ◌/◌, ◌%◌, ◌≤◌, Bool, false, List, Option, Some, None, length, refl}
use Rattle.std.proofs.Common.{sym, ap, arith}
use Rattle.std.specs.Prelude.{find}
use Rattle.ps_rows.specs.Planes.{has_cell, with_cell, with_shift}
use Rattle.ps_rows.proofs.Listed.{find_listed}
use Rattle.ps_rows.proofs.Untouched.{cell_set, cell_with}
use Rattle.ps_rows.proofs.planes.Planes.shift_cell.Goals as goal

pub put_cell-requires-clause-plane : goal.put_cell-requires-clause-plane
put_cell-requires-clause-plane g c =
    let p = c.args.self.now in
    let found : find (has_cell p.height p.words.items c.args.cell) c.args.planes.now ≡ Some c.in-Some.plane =
    sym c.first_plane.ensures ∙ c.in-Some.is in
    let whole : (c.in-Some.plane + 1) * p.height ≤ length p.words.items = c.requires.planes c.in-Some.plane
    (find_listed (has_cell p.height p.words.items c.args.cell) c.args.planes.now c.in-Some.plane found) in
    omega (arith, whole, p.words.ok.0)

pub set_cell-requires-clause-plane : goal.set_cell-requires-clause-plane
set_cell-requires-clause-plane g c =
    let p = c.args.self.now in
    let found : find (has_cell p.height p.words.items c.args.cell) c.args.planes.now ≡ Some c.in-Some.plane =
    sym c.first_plane.ensures ∙ c.in-Some.is in
    let whole : (c.in-Some.plane + 1) * p.height ≤ length p.words.items = c.requires.planes c.in-Some.plane
    (find_listed (has_cell p.height p.words.items c.args.cell) c.args.planes.now c.in-Some.plane found) in
    let long : (c.in-Some.plane + 1) * p.height ≤ p.words.len = omega (arith, whole, p.words.ok.0) in
    rw (c.put_cell.ensures.height, c.put_cell.ensures.count) long

pub returns-in-Some-clause-words : goal.returns-in-Some-clause-words
unfolding with_shift
returns-in-Some-clause-words g c =
    let p = c.args.self.now in
    let plane : ℕ = c.in-Some.plane in
    let put = c.put_cell.new.self in
    let found : find (has_cell p.height p.words.items c.args.cell) c.args.planes.now ≡ Some plane =
    sym c.first_plane.ensures ∙ c.in-Some.is in
    c.set_cell.ensures.words
    ∙ ap (cell_with (c.args.cell % p.height) (c.args.cell / p.height) plane put.words.items false)
    c.put_cell.ensures.height
    ∙ cell_set p.height c.args.cell plane (c.args.cell % p.height) (c.args.cell / p.height) put.words.items false
    refl refl
    ∙ ap (λ (ws : List (List Bool)). with_cell p.height ws c.args.cell plane false) c.put_cell.ensures.words
    ∙ sym (ap (λ (o : Option ℕ). with_shift p.height c.args.cell c.args.to o p.words.items) found)

pub returns-in_default-clause-words : goal.returns-in_default-clause-words
unfolding with_shift
returns-in_default-clause-words g c =
    let p = c.args.self.now in
    let none : find (has_cell p.height p.words.items c.args.cell) c.args.planes.now ≡ None =
    sym c.first_plane.ensures ∙ c.in_default.is in
    sym (ap (λ (o : Option ℕ). with_shift p.height c.args.cell c.args.to o p.words.items) none)
