use Rattle.std.proofs.Common.{◌∙◌, sym, refl}
use Rattle.ps_rows.specs.Showing.{first_motion}
use Rattle.ps_rows.proofs.motions.first_motion.Goals as goal

pub returns-then-has_cell : goal.returns-then-has_cell
unfolding first_motion
returns-then-has_cell g c = let up = sym c.has_cell.ensures ∙ c.if-has_cell.true in rw up refl

pub returns-then-has_cell-2 : goal.returns-then-has_cell-2
unfolding first_motion
returns-then-has_cell-2 g c =
    let up = sym c.has_cell.ensures ∙ c.if-has_cell.false in
    let down = sym c.has_cell-2.ensures ∙ c.if-has_cell-2.true in
    rw (up, down) refl

pub returns-then-has_cell-3 : goal.returns-then-has_cell-3
unfolding first_motion
returns-then-has_cell-3 g c =
    let up = sym c.has_cell.ensures ∙ c.if-has_cell.false in
    let down = sym c.has_cell-2.ensures ∙ c.if-has_cell-2.false in
    let left = sym c.has_cell-3.ensures ∙ c.if-has_cell-3.true in
    rw (up, down, left) refl

pub returns-then-has_cell-4 : goal.returns-then-has_cell-4
unfolding first_motion
returns-then-has_cell-4 g c =
    let up = sym c.has_cell.ensures ∙ c.if-has_cell.false in
    let down = sym c.has_cell-2.ensures ∙ c.if-has_cell-2.false in
    let left = sym c.has_cell-3.ensures ∙ c.if-has_cell-3.false in
    let right = sym c.has_cell-4.ensures ∙ c.if-has_cell-4.true in
    rw (up, down, left, right) refl

pub returns-then-has_cell-5 : goal.returns-then-has_cell-5
unfolding first_motion
returns-then-has_cell-5 g c =
    let up = sym c.has_cell.ensures ∙ c.if-has_cell.false in
    let down = sym c.has_cell-2.ensures ∙ c.if-has_cell-2.false in
    let left = sym c.has_cell-3.ensures ∙ c.if-has_cell-3.false in
    let right = sym c.has_cell-4.ensures ∙ c.if-has_cell-4.false in
    let action = sym c.has_cell-5.ensures ∙ c.if-has_cell-5.true in
    rw (up, down, left, right, action) refl

pub returns : goal.returns
unfolding first_motion
returns g c =
    let up = sym c.has_cell.ensures ∙ c.if-has_cell.false in
    let down = sym c.has_cell-2.ensures ∙ c.if-has_cell-2.false in
    let left = sym c.has_cell-3.ensures ∙ c.if-has_cell-3.false in
    let right = sym c.has_cell-4.ensures ∙ c.if-has_cell-4.false in
    let action = sym c.has_cell-5.ensures ∙ c.if-has_cell-5.false in
    rw (up, down, left, right, action) refl
