use Rattle.std.proofs.Common.{◌∙◌, Option, option_map}
use Rattle.ps_model.specs.names.Names.{Meaning}
use Rattle.ps_model.specs.board.Grid.{Grid}
use Rattle.ps_model.specs.board.Winning.{is_in, is_place}
use Rattle.ps_names.specs.Shown.{meaning_shown}
use Rattle.ps_turn.proofs.RowsOfCells.{rows_met, rows_none}
use Rattle.ps_turn.proofs.winning.columns_met.Goals as goal

pub returns-then-is_empty : goal.returns-then-is_empty
returns-then-is_empty g c =
    let grid : Grid = g.B.Board.grid c.args.board.now in
    let subject : Meaning = meaning_shown c.args.win.now.subject in
    let place : Option Meaning = option_map meaning_shown c.args.win.now.place in
    rows_none (is_in subject) (is_place place) grid c.args.row c.columns_meant-with_subject.result
    c.columns_meant-with_subject.ensures (c.is_empty.ensures.none c.if-is_empty.true)

pub returns : goal.returns
returns g c =
    let grid : Grid = g.B.Board.grid c.args.board.now in
    let subject : Meaning = meaning_shown c.args.win.now.subject in
    let place : Option Meaning = option_map meaning_shown c.args.win.now.place in
    c.both.ensures
    ∙ rows_met (is_in subject) (is_place place) grid c.args.row c.columns_meant-with_subject.result
    c.columns_of_place.result c.columns_meant-with_subject.ensures c.columns_of_place.ensures
