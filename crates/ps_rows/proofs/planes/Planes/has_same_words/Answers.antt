use Rattle.std.proofs.Common.{◌≡◌, ◌+◌, ◌*◌, ◌∙◌, ℕ, sym, ap, ap₂, arith}
use Rattle.ps_rows.proofs.SameWords.{one_word_more}
use Rattle.ps_board.specs.ColumnSets.{either_columns, set_columns, unlike_columns}
use Rattle.ps_rows.specs.Planes.{row_of}
use Rattle.ps_rows.proofs.planes.Planes.has_same_words.Goals as goal

pub loop-row-preserved : goal.loop-row-preserved
loop-row-preserved g c = λ none.
    let p = c.args.self.now in
    let o = c.args.other.now in
    let there : c.row-in-loop-row.result ≡ row_of o.words.items (c.args.plane * p.height + c.loop-row.row) =
    c.row-in-loop-row.ensures ∙ ap (λ (h : ℕ).
    row_of o.words.items (c.args.plane * h + c.loop-row.row)) c.requires.height in
    one_word_more p.height c.args.plane c.loop-row.row c.loop-row.unlike p.words.items o.words.items
    (p.sets (c.args.plane * p.height + c.loop-row.row)) (o.sets (c.args.plane * p.height + c.loop-row.row))
    c.loop-row.invariant
    (ap set_columns (sym (c.either-unlike.ensures
    ∙ ap (either_columns c.loop-row.unlike) (c.unlike.ensures ∙ ap₂ unlike_columns c.row.ensures there))) ∙ none)

pub returns : goal.returns
returns g c = λ yes row under clear. c.loop-row.invariant (c.is_empty.ensures.none yes) row
    (omega (arith, under, c.loop-row-test.false))
