use Rattle.std.proofs.Common.{◌∙◌, ◌+◌, ◌*◌, ◌++◌, ℕ, List, refl, ap, append_assoc}
use Rattle.std.proofs.lemmas.Result.{on_ok_weaker}
use Rattle.std.specs.Prelude.{codes}
use Rattle.ps_screen.proofs.WindowFrames.{rows_within, whole_rows}
use Rattle.ps_screen.proofs.windows.add_whole_rows.Goals as goal

pub stretch-requires : goal.stretch-requires
stretch-requires g c =
    let window = c.args.window in
    rows_within c.args.look.now (g.B.Board.grid c.args.board.now) window c.args.text.now (window.columns + 1)
    (window.first_row * (window.columns + 1)) (window.rows * (window.columns + 1)) c.requires.window c.requires.columns
    c.requires.text refl refl refl

pub returns-clause-added : goal.returns-clause-added
returns-clause-added g c =
    let window = c.args.window in
    let rows = whole_rows c.args.look.now (g.B.Board.grid c.args.board.now) window c.args.text.now (window.columns + 1)
    (window.first_row * (window.columns + 1)) (window.rows * (window.columns + 1)) c.requires.window c.requires.columns
    c.requires.text refl refl refl in
    on_ok_weaker c.add-2.result
    (λ added. added
    ∙ ap (λ (text : List ℕ). text ++ codes "\n")
    (c.in_ok-add.ensures.added ∙ ap (λ (bytes : List ℕ). c.args.output.now ++ bytes) c.stretch.ensures)
    ∙ append_assoc c.args.output.now _ (codes "\n")
    ∙ ap (λ (text : List ℕ). c.args.output.now ++ text) rows) c.add-2.ensures.added
