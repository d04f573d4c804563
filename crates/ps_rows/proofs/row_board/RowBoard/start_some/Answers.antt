use Rattle.std.proofs.Common.{◌≡◌, ◌∷◌, List, Bool, [], length, replicate}
use Rattle.std.proofs.lemmas.List.{nil_from_length}
use Rattle.ps_model.specs.board.Grid.{Grid}
use Rattle.ps_model.specs.meaning.Compiled.{is_held_in}
use Rattle.ps_rows.specs.Showing.{grid_shown}
use Rattle.ps_rows.proofs.RowsKept.{kept_alone, kept_pair}
use Rattle.ps_rows.proofs.row_board.RowBoard.start_some.Goals as goal

pub returns-in-None : goal.returns-in-None
returns-in-None g c =
    let b = c.args.self.now in
    let grid : Grid = grid_shown b.members.table.items b.width b.planes.height b.layers b.planes.words.items in
    let all : List (List Bool) = replicate (length c.args.found.now) b.all_columns in
    let none : c.args.others.now ≡ [] = nil_from_length c.args.others.now c.in-None.ensures.cases in
    kept_alone grid c.args.first is_held_in c.args.sought.now c.args.others.now all c.start_held.new.found none
    c.start_held.ensures

pub returns-in-Some : goal.returns-in-Some
returns-in-Some g c =
    let b = c.args.self.now in
    let grid : Grid = grid_shown b.members.table.items b.width b.planes.height b.layers b.planes.words.items in
    let all : List (List Bool) = replicate (length c.args.found.now) b.all_columns in
    let other = c.in-Some.other.now in
    let rest = c.in-Some.rest.now in
    let some : c.args.others.now ≡ other ∷ rest = c.in-Some.ensures.cases.0 in
    kept_pair grid c.args.first is_held_in c.args.sought.now other c.args.others.now rest all c.start_two.new.found
    c.keep_all.new.found some c.start_two.ensures c.keep_all.ensures
