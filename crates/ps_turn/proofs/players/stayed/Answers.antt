use Rattle.std.proofs.Common.{◌∙◌, ◌&&◌, Bool, sym, ap, ap₂}
use Rattle.std.proofs.Math.Bool.{and-false, and-true}
use Rattle.std.specs.Prelude.{not}
use Rattle.std.specs.List.{list_any, range_with_len}
use Rattle.ps_model.specs.names.Names.{Names}
use Rattle.ps_model.specs.board.Grid.{Grid, cell_count}
use Rattle.ps_turn.specs.RowsOfCells.{has_player_at}
use Rattle.ps_turn.proofs.Stayed.{stayed_by}
use Rattle.ps_turn.proofs.players.stayed.Goals as goal

pub returns-then-not-has_left : goal.returns-then-not-has_left
returns-then-not-has_left g c =
    let names : Names = c.args.game.now.names in
    let before : Grid = g.B.Board.grid c.args.before.now in
    let after : Grid = g.B.Board.grid c.args.after.now in
    sym (stayed_by names before after ∙ ap₂ (λ (there gone : Bool). there && not gone) (sym c.is_there.ensures)
    (sym c.has_left.ensures ∙ c.if-not-has_left.true) ∙ and-true c.is_there.result)

pub returns-else-not-has_left : goal.returns-else-not-has_left
returns-else-not-has_left g c =
    let names : Names = c.args.game.now.names in
    let before : Grid = g.B.Board.grid c.args.before.now in
    let after : Grid = g.B.Board.grid c.args.after.now in
    let there : Bool = list_any (has_player_at names before) (range_with_len 0 (cell_count before)) in
    ap not c.if-not-has_left.false
    ∙ sym (stayed_by names before after ∙ ap (λ (gone : Bool). there && not gone) (sym c.has_left.ensures
    ∙ c.if-not-has_left.false) ∙ and-false there)
