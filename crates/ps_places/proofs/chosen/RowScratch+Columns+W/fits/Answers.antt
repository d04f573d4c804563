use Rattle.std.proofs.Common.{◌≡◌, ◌∙◌, ℕ, ◌<◌, ◌≤◌, true, false, Option, List, length, take, get_or, sym, ap, arith}
use Rattle.std.proofs.Common.{rules}
use Rattle.std.proofs.lemmas.List.{get_or-take, length-take-le}
use Rattle.ps_model.specs.board.Grid.{Grid}
use Rattle.ps_program.specs.declared.cells.CompiledCell.{CompiledCell}
use Rattle.ps_places.specs.Lines.{part_fits}
use Rattle.ps_places.proofs.PlacesOfWays.{place-fits-way, way-fits-end, way-fits-next}
use Rattle.ps_places.proofs.chosen.RowScratch+Columns+W.fits.Goals as goal

pub returns-then-not-part_fits : goal.returns-then-not-part_fits
returns-then-not-part_fits g c =
    let grid : Grid = g.B.Board.grid c.args.board.now in
    let table : Option (List ℕ) = g.B.Board.table c.args.board.now in
    let parts : List (List CompiledCell) = c.args.row.now.parts in
    let number : ℕ = c.loop-number.number in
    let way : List ℕ = take (length c.args.row.now.parts) c.args.self.now.way in
    let room : length c.args.self.now.way ≡ 3 = search rules in
    let few : length c.args.row.now.parts ≤ 3 = c.args.row.now.few in
    let long : length way ≡ length parts = length-take-le (length c.args.row.now.parts) c.args.self.now.way
    (omega (arith, few, room)) in
    let same : length c.as_slice-parts.result.now ≡ length parts = ap length c.as_slice-parts.ensures in
    let low : number < length parts = omega (arith, c.loop-number-test.true, same) in
    let part : c.index-parts-number.result ≡ get_or parts number c.index-parts-number.result =
    c.index-parts-number.is ∙ ap (λ (ps : List (List CompiledCell)).
    get_or ps number c.index-parts-number.result) c.as_slice-parts.ensures in
    let out : part_fits grid table c.args.row.now.axis c.args.self.now.line c.index-parts-number.result
    (get_or way number 0) ≡ false =
    ap (part_fits grid table c.args.row.now.axis c.args.self.now.line c.index-parts-number.result)
    (get_or-take (length c.args.row.now.parts) c.args.self.now.way number 0 low)
    ∙ ap (λ (cells : List CompiledCell). part_fits grid table c.args.row.now.axis c.args.self.now.line cells
    (get_or c.args.self.now.way number 0)) (sym c.as_slice.ensures)
    ∙ sym c.part_fits.ensures ∙ c.if-not-part_fits.true in
    sym (place-fits-way grid table c.args.row.now.axis c.args.self.now.line parts way long
    ∙ c.loop-number.invariant
    ∙ way-fits-next grid table c.args.row.now.axis c.args.self.now.line parts way number c.index-parts-number.result 0
    false low (omega (arith, low, long)) part out)

pub loop-number-preserved : goal.loop-number-preserved
loop-number-preserved g c =
    let grid : Grid = g.B.Board.grid c.args.board.now in
    let table : Option (List ℕ) = g.B.Board.table c.args.board.now in
    let parts : List (List CompiledCell) = c.args.row.now.parts in
    let number : ℕ = c.loop-number.number in
    let way : List ℕ = take (length c.args.row.now.parts) c.args.self.now.way in
    let room : length c.args.self.now.way ≡ 3 = search rules in
    let few : length c.args.row.now.parts ≤ 3 = c.args.row.now.few in
    let long : length way ≡ length parts = length-take-le (length c.args.row.now.parts) c.args.self.now.way
    (omega (arith, few, room)) in
    let same : length c.as_slice-parts.result.now ≡ length parts = ap length c.as_slice-parts.ensures in
    let low : number < length parts = omega (arith, c.loop-number-test.true, same) in
    let part : c.index-parts-number.result ≡ get_or parts number c.index-parts-number.result =
    c.index-parts-number.is ∙ ap (λ (ps : List (List CompiledCell)).
    get_or ps number c.index-parts-number.result) c.as_slice-parts.ensures in
    let fit : part_fits grid table c.args.row.now.axis c.args.self.now.line c.index-parts-number.result
    (get_or way number 0) ≡ true =
    ap (part_fits grid table c.args.row.now.axis c.args.self.now.line c.index-parts-number.result)
    (get_or-take (length c.args.row.now.parts) c.args.self.now.way number 0 low)
    ∙ ap (λ (cells : List CompiledCell). part_fits grid table c.args.row.now.axis c.args.self.now.line cells
    (get_or c.args.self.now.way number 0)) (sym c.as_slice.ensures)
    ∙ sym c.part_fits.ensures ∙ c.if-not-part_fits.false in
    c.loop-number.invariant
    ∙ way-fits-next grid table c.args.row.now.axis c.args.self.now.line parts way number c.index-parts-number.result 0
    true low (omega (arith, low, long)) part fit

pub returns : goal.returns
returns g c =
    let grid : Grid = g.B.Board.grid c.args.board.now in
    let table : Option (List ℕ) = g.B.Board.table c.args.board.now in
    let parts : List (List CompiledCell) = c.args.row.now.parts in
    let number : ℕ = c.loop-number.number in
    let way : List ℕ = take (length c.args.row.now.parts) c.args.self.now.way in
    let room : length c.args.self.now.way ≡ 3 = search rules in
    let few : length c.args.row.now.parts ≤ 3 = c.args.row.now.few in
    let long : length way ≡ length parts = length-take-le (length c.args.row.now.parts) c.args.self.now.way
    (omega (arith, few, room)) in
    let same : length c.as_slice-parts.result.now ≡ length parts = ap length c.as_slice-parts.ensures in
    let all : length parts ≤ number = omega (arith, c.loop-number-test.false, same) in
    sym (place-fits-way grid table c.args.row.now.axis c.args.self.now.line parts way long
    ∙ c.loop-number.invariant
    ∙ way-fits-end grid table c.args.row.now.axis c.args.self.now.line parts way number all (omega (arith, all, long)))
