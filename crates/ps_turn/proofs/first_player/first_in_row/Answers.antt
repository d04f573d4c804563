use Rattle.std.proofs.Common.{◌∙◌, Bool, ℕ, refl, sym}
use Rattle.std.proofs.lemmas.Bool.{false≢true}
use Rattle.ps_model.specs.board.Grid.{Grid}
use Rattle.ps_turn.specs.RowsOfCells.{has_player_at}
use Rattle.ps_turn.proofs.FirstCells.{first_of_row, first_passes}
use Rattle.ps_turn.proofs.RowsOfCells.{row_without}
use Rattle.ps_turn.proofs.first_player.first_in_row.Goals as goal

pub returns-in_default-clause-first : goal.returns-in_default-clause-first
returns-in_default-clause-first g c = λ x across is.
    let grid : Grid = g.B.Board.grid c.args.board.now in
    let test : ℕ → Bool = has_player_at c.args.game.now.names grid in
    absurd (false≢true (sym (row_without test grid.width grid.height c.args.row c.player_columns-columns.result
    c.size-height.ensures.shape.columns c.player_columns-columns.ensures
    (c.in_default.ensures.none refl) x across) ∙ is))

pub returns-clause-passes : goal.returns-clause-passes
returns-clause-passes g c =
    let grid : Grid = g.B.Board.grid c.args.board.now in
    let test : ℕ → Bool = has_player_at c.args.game.now.names grid in
    rw c.size-height.ensures.height
    (first_passes test grid c.args.row c.in-Some.column c.player_columns-columns.result _ c.requires
    c.player_columns-columns.ensures c.in-Some.ensures.some)

pub returns-clause-first : goal.returns-clause-first
returns-clause-first g c =
    let grid : Grid = g.B.Board.grid c.args.board.now in
    let test : ℕ → Bool = has_player_at c.args.game.now.names grid in
    rw c.size-height.ensures.height
    (first_of_row test grid c.args.row c.in-Some.column c.player_columns-columns.result _
    c.size-height.ensures.shape.columns c.player_columns-columns.ensures c.in-Some.ensures.some)
