use Rattle.std.proofs.Common.{◌∙◌, ◌++◌, ◌+◌, ◌≤◌, ℕ, List, length, ap, arith}
use Rattle.std.proofs.lemmas.Result.{on_ok_weaker}
use Rattle.std.specs.Prelude.{codes}
use Rattle.ps_screen.proofs.PlainRows.{plain_columns}
use Rattle.ps_screen.proofs.WindowFrames.{part_ended}
use Rattle.ps_screen.proofs.windows.add_plain_part.Goals as goal

pub returns-clause-added : goal.returns-clause-added
returns-clause-added g c =
    let grid = g.B.Board.grid c.args.board.now in
    let text : List ℕ = c.args.text.now in
    let first : ℕ = c.args.start + c.args.window.first_column in
    let count : ℕ = c.args.window.columns in
    let within : first + (count + 1) ≤ length text = omega (arith, c.requires.window.columns, c.requires.text.long) in
    on_ok_weaker c.add_row.result
    (λ added. added ∙ ap (λ (bytes : List ℕ). c.args.output.now ++ (bytes ++ codes "\n"))
    (part_ended text c.stretch.result.now first count within c.stretch.ensures
    ∙ plain_columns c.args.look.now grid c.args.row c.args.start text c.args.window.first_column count
    c.requires.window.columns c.requires.text)) c.add_row.ensures.added
