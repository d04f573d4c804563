use Rattle.std.proofs.Common.{◌∙◌, ap, sym, ◌≡◌, ◌≢◌, [], ◌∷◌, map, subst, List}
use Rattle.ps_model.specs.board.Places.{places}
use Rattle.ps_program.specs.Axes.{direction_of}
use Rattle.ps_program.specs.declared.cells.CompiledCell.{CompiledCell}
use Rattle.ps_places.specs.RowPlaces.{place_fits}
use Rattle.ps_places.specs.Ways.{from_first}
use Rattle.ps_places.specs.Lines.{part_meaning}
use Rattle.ps_engine.proofs.Combinations.{all_fit_there}
use Rattle.ps_engine.proofs.Within.{none_of_some, only_of}
use Rattle.ps_engine.proofs.asking.row_has_place.Goals as goal

pub returns-clause-none : goal.returns-clause-none
returns-clause-none g c = λ no.
    let grid = g.B.Board.grid c.args.board.now in
    let table = g.B.Board.table c.args.board.now in
    let row = c.args.row.now in
    sym (all_fit_there grid table (direction_of row.axis) row)
    ∙ ap (from_first (place_fits grid table row.parts)) c.find_starts.ensures.places ∙ c.first_place.ensures.none no

pub returns-then-parts-eq1-clause-none : goal.returns-then-parts-eq1-clause-none
returns-then-parts-eq1-clause-none g c = λ no.
    let grid = g.B.Board.grid c.args.board.now in
    let table = g.B.Board.table c.args.board.now in
    let row = c.args.row.now in
    let part : List CompiledCell = c.as_slice.result.now in
    let only : row.parts ≡ part ∷ [] =
    sym c.as_slice-parts.ensures
    ∙ only_of c.as_slice-parts.result.now c.index-parts-0.result c.if-parts-eq1.true c.index-parts-0.is
    ∙ ap (λ (p : List CompiledCell). p ∷ []) (sym c.as_slice.ensures) in
    subst (λ (ps : List (List CompiledCell)). places grid (direction_of row.axis) (map (part_meaning table) ps) ≡ [])
    (sym only) (c.has_part.ensures.none no)

pub returns-then-parts-eq1-clause-some : goal.returns-then-parts-eq1-clause-some
returns-then-parts-eq1-clause-some g c = λ yes.
    let grid = g.B.Board.grid c.args.board.now in
    let table = g.B.Board.table c.args.board.now in
    let row = c.args.row.now in
    let part : List CompiledCell = c.as_slice.result.now in
    let only : row.parts ≡ part ∷ [] =
    sym c.as_slice-parts.ensures
    ∙ only_of c.as_slice-parts.result.now c.index-parts-0.result c.if-parts-eq1.true c.index-parts-0.is
    ∙ ap (λ (p : List CompiledCell). p ∷ []) (sym c.as_slice.ensures) in
    subst (λ (ps : List (List CompiledCell)). places grid (direction_of row.axis) (map (part_meaning table) ps) ≢ [])
    (sym only) (c.has_part.ensures.some yes)

pub returns-clause-some : goal.returns-clause-some
returns-clause-some g c = λ yes.
    let grid = g.B.Board.grid c.args.board.now in
    let table = g.B.Board.table c.args.board.now in
    let row = c.args.row.now in
    none_of_some _ _ _ (sym (all_fit_there grid table (direction_of row.axis) row)
    ∙ ap (from_first (place_fits grid table row.parts)) c.find_starts.ensures.places ∙ c.first_place.ensures.found yes)
