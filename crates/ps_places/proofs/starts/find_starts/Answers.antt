use Rattle.std.proofs.Common.{◌≡◌, ◌∙◌, ◌≤◌, ◌*◌, List, length, Bool, ap, sym, subst, arith}
use Rattle.std.proofs.lemmas.List.{with_items_is}
use Rattle.ps_model.specs.declared.limits.TheConstants.{SIDE_LIMIT}
use Rattle.ps_program.specs.declared.cells.CompiledCell.{CompiledCell}
use Rattle.ps_board.specs.ColumnSets.{set_columns}
use Rattle.ps_places.specs.RowPlaces.{places_on_lines}
use Rattle.ps_places.specs.FoundStarts.{AreLinesFound}
use Rattle.ps_places.proofs.FoundPlaces.{places-found}
use Rattle.ps_places.proofs.starts.find_starts.Goals as goal

pub returns-clause-places : goal.returns-clause-places
returns-clause-places g c =
    let grid = g.B.Board.grid c.args.board.now in
    let table = g.B.Board.table c.args.board.now in
    let row = c.args.row.now in
    let starts = c.find_lines-scratch.new.starts in
    let old = c.args.scratch.now.starts in
    let long : length starts ≡ old.len = omega (arith, c.find_lines-scratch.ensures.long, c.as_mut_slice.ensures.len) in
    let scratch : SIDE_LIMIT * length row.parts ≤ length starts = omega (arith, row.few, long, c.args.scratch.now.long) in
    places-found grid table row.axis row.parts starts c.find_lines-scratch.result c.recall_shape.ensures.shape row.some
    row.whole scratch
    (subst (λ (parts : List (List CompiledCell)).
    AreLinesFound grid table row.axis parts starts c.find_lines-scratch.result (length parts)) c.as_slice-parts.ensures
    c.find_lines-scratch.ensures.lines)
    ∙ ap (λ (sets : List (List Bool)). places_on_lines row.axis grid.height row.parts sets
    (set_columns c.find_lines-scratch.result)) (sym (with_items_is old starts long))
