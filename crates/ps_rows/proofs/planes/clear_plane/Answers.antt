use Rattle.std.proofs.Common.{◌≡◌, ◌+◌, ◌*◌, ◌-◌, ◌∙◌, ℕ, List, Bool, [], length, subst, sym, ap, rules, arith}
use borrow.Rule.Slice.PartMut.{put_mid}
use Rattle.ps_rows.specs.PlaneCopies.{ArePlanesOf}
use Rattle.ps_rows.proofs.PlaneCopies.{plane_overwritten}
use Rattle.ps_rows.proofs.Rests.{blank_word}
use Rattle.ps_rows.specs.Planes.{row_of}
use Rattle.ps_rows.proofs.planes.clear_plane.Goals as goal

pub returns : goal.returns
returns g c =
    let h : ℕ = c.args.height in
    let start : ℕ = c.args.plane * h in
    let part : List (List Bool) = c.clear.new.words in
    let wide : start + h - start ≡ h = omega arith in
    let long : length part ≡ h = search (rules, arith) in
    let P : ℕ → Type 0 = λ n. ArePlanesOf h c.args.plane (c.args.plane + 1) [] c.args.words.now
    (put_mid start n c.args.words.now part) in
    subst P (sym wide)
    (plane_overwritten h c.args.plane [] part c.args.words.now long c.requires
    (λ row under. ap (λ (ws : List (List Bool)). row_of ws row) c.clear.ensures ∙ blank_word _ row))
