use Rattle.std.proofs.Common.{◌≡◌, ◌+◌, ◌-◌, ◌∙◌, ℕ, Bool, List, length, drop, subst, ap, rules, arith}
use borrow.Rule.Slice.PartMut.{put_mid}
use Rattle.std.proofs.lemmas.List.{get_or-drop, get_or-take}
use Rattle.ps_rows.specs.PlaneCopies.{AreCopied}
use Rattle.ps_rows.proofs.PlaneCopies.{sets_overwritten}
use Rattle.ps_rows.specs.Planes.{row_of}
use Rattle.ps_board.specs.ColumnSets.{no_columns}
use Rattle.ps_rows.proofs.planes.copy_sets.Goals as goal

pub returns-clause-copied : goal.returns-clause-copied
returns-clause-copied g c =
    let first : ℕ = c.args.first in
    let count : ℕ = c.args.end - first in
    let part : List (List Bool) = c.copy_from_slice.new.self in
    let long : length part ≡ count = search (rules, arith) in
    let whole : first + count ≡ c.args.end = omega (arith, c.requires.order) in
    let P : ℕ → Type 0 = λ end. AreCopied first end c.args.sets.now c.args.others.now
    (put_mid first count c.args.others.now part) in
    subst P whole
    (sets_overwritten first count c.args.sets.now part c.args.others.now long
    (omega (arith, whole, c.requires.there))
    (λ i less.
    ap (λ (ws : List (List Bool)). row_of ws i) c.copy_from_slice.ensures.after
    ∙ get_or-take count (drop first c.args.sets.now) i no_columns less
    ∙ get_or-drop first c.args.sets.now i no_columns))
