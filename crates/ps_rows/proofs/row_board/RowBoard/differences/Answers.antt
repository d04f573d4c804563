use Rattle.std.proofs.Common.{◌≡◌, ◌∙◌, Bool, List, length, sym, subst}
use Rattle.std.specs.Prelude.{IfOk, IfSome}
use Rattle.ps_rows.specs.MixedPlanes.{mixed_planes}
use Rattle.ps_rows.specs.RowDifferences.{rows_changed}
use Rattle.ps_rows.proofs.Alike.{other_whole}
use Rattle.ps_rows.proofs.MixedPlanes.{all_rows, mixed_all}
use Rattle.ps_rows.proofs.row_board.RowBoard.differences.Goals as goal

pub returns-clause-forth : goal.returns-clause-forth
returns-clause-forth g c =
    let b = c.args.self.now in
    let o = c.args.other.now in
    let p = b.planes in
    let long : length o.planes.words.items ≡ length p.words.items =
    other_whole b.members.table.items o.members.table.items b.layers o.layers p.height o.planes.height _
    c.requires.table c.requires.layers c.requires.height (sym o.planes.words.ok.0 ∙ o.whole)
    ∙ sym (sym p.words.ok.0 ∙ b.whole) in
    let all : mixed_planes p.height c.all.result p.words.items o.planes.words.items ≡ o.planes.words.items =
    mixed_all p.height c.all.result p.words.items o.planes.words.items long p.some_row
    (all_rows _ p.height c.all.result c.all.ensures p.low p.rows) in
    let P : List (List Bool) → Type 0 = λ words. IfOk c.differences.result (λ found. IfSome found (λ rows.
    rows_changed p.height p.words.items rows.items ≡ words)) in
    subst P all c.differences.ensures.forth

pub returns-clause-back : goal.returns-clause-back
returns-clause-back g c =
    let b = c.args.self.now in
    let o = c.args.other.now in
    let p = b.planes in
    let long : length o.planes.words.items ≡ length p.words.items =
    other_whole b.members.table.items o.members.table.items b.layers o.layers p.height o.planes.height _
    c.requires.table c.requires.layers c.requires.height (sym o.planes.words.ok.0 ∙ o.whole)
    ∙ sym (sym p.words.ok.0 ∙ b.whole) in
    let all : mixed_planes p.height c.all.result p.words.items o.planes.words.items ≡ o.planes.words.items =
    mixed_all p.height c.all.result p.words.items o.planes.words.items long p.some_row
    (all_rows _ p.height c.all.result c.all.ensures p.low p.rows) in
    let P : List (List Bool) → Type 0 = λ words. IfOk c.differences.result (λ found. IfSome found (λ rows.
    rows_changed p.height words rows.items ≡ p.words.items)) in
    subst P all c.differences.ensures.back
