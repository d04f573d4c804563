use Rattle.std.proofs.Common.{◌≡◌, ◌*◌, ◌≤◌, ◌∙◌, ℕ, length, sym, arith}
use Rattle.std.proofs.lemmas.List.{get_or_past}
use Rattle.ps_board.specs.ColumnSets.{no_columns}
use Rattle.ps_rows.specs.Showing.{motions_from}
use Rattle.ps_rows.proofs.Alike.{other_whole}
use Rattle.ps_rows.proofs.PlaneCopies.{behind_plane}
use Rattle.ps_rows.proofs.row_board.RowBoard.planes_used.Goals as goal

pub returns-then-both_rest-clause-within : goal.returns-then-both_rest-clause-within
returns-then-both_rest-clause-within g c =
    let b = c.args.self.now in
    let first : ℕ = length b.members.table.items in
    let all : ℕ = motions_from b.members.table.items b.layers in
    let fewer : first ≤ all = omega arith in
    let less : first * b.planes.height ≤ all * b.planes.height = behind_plane b.planes.height first all fewer in
    rw c.count.ensures.value (omega (arith, less, b.whole))

pub returns-then-both_rest-clause-same : goal.returns-then-both_rest-clause-same
returns-then-both_rest-clause-same g c =
    rw c.count.ensures.value (c.both_rest.ensures c.if-both_rest.true)

pub returns-clause-within : goal.returns-clause-within
returns-clause-within g c =
    let b = c.args.self.now in
    rw c.count-2.ensures.value (omega (arith, b.whole))

pub returns-clause-same : goal.returns-clause-same
returns-clause-same g c = λ place from.
    let b = c.args.self.now in
    let o = c.args.other.now in
    let whole : length b.planes.words.items ≡ motions_from b.members.table.items b.layers * b.planes.height =
    sym b.planes.words.ok.0 ∙ b.whole in
    let other : length o.planes.words.items ≡ motions_from b.members.table.items b.layers * b.planes.height =
    other_whole b.members.table.items o.members.table.items b.layers o.layers b.planes.height o.planes.height _
    c.requires.table c.requires.layers c.requires.height (sym o.planes.words.ok.0 ∙ o.whole) in
    let past : motions_from b.members.table.items b.layers * b.planes.height ≤ place =
    rw (← c.count-2.ensures.value) from in
    get_or_past b.planes.words.items place no_columns (omega (arith, past, whole))
    ∙ sym (get_or_past o.planes.words.items place no_columns (omega (arith, past, other)))
