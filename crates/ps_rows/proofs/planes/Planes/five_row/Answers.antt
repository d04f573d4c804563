use Rattle.std.proofs.Common.{◌≡◌, ◌+◌, ◌*◌, ◌<◌, ◌∙◌, ℕ, Bool, List, length, refl, ap, arith}
use Rattle.std.proofs.lemmas.List.{get_or_read}
use Rattle.ps_board.specs.ColumnSets.{no_columns}
use Rattle.ps_rows.specs.Planes.{row_of}
use Rattle.ps_rows.proofs.planes.Planes.five_row.Goals as goal

pub returns : goal.returns
returns g c =
    let p = c.args.self.now in
    let words : List (List Bool) = p.words.items in
    let place : ℕ = c.args.first * p.height + c.args.row in
    let enough : place + 4 * p.height < length words = omega (arith, c.requires.planes, c.requires.row, p.words.ok.0) in
    let at-0 : c.index.result.now ≡ row_of words (c.args.first * p.height + c.args.row) =
    get_or_read words place _ (omega (arith, enough)) c.index.ensures no_columns in
    let e-1 : place + p.height ≡ (c.args.first + 1) * p.height + c.args.row = omega arith in
    let at-1 : c.index-2.result.now ≡ row_of words ((c.args.first + 1) * p.height + c.args.row) =
    get_or_read words (place + p.height) _ (omega (arith, enough)) c.index-2.ensures no_columns
    ∙ ap (row_of words) e-1 in
    let e-2 : place + 2 * p.height ≡ (c.args.first + 2) * p.height + c.args.row = omega arith in
    let at-2 : c.index-3.result.now ≡ row_of words ((c.args.first + 2) * p.height + c.args.row) =
    get_or_read words (place + 2 * p.height) _ (omega (arith, enough)) c.index-3.ensures no_columns
    ∙ ap (row_of words) e-2 in
    let e-3 : place + 3 * p.height ≡ (c.args.first + 3) * p.height + c.args.row = omega arith in
    let at-3 : c.index-4.result.now ≡ row_of words ((c.args.first + 3) * p.height + c.args.row) =
    get_or_read words (place + 3 * p.height) _ (omega (arith, enough)) c.index-4.ensures no_columns
    ∙ ap (row_of words) e-3 in
    let e-4 : place + 4 * p.height ≡ (c.args.first + 4) * p.height + c.args.row = omega arith in
    let at-4 : c.index-5.result.now ≡ row_of words ((c.args.first + 4) * p.height + c.args.row) =
    get_or_read words (place + 4 * p.height) _ (omega (arith, enough)) c.index-5.ensures no_columns
    ∙ ap (row_of words) e-4 in
    rw (
      c.either-4.ensures,
      c.either-3.ensures,
      c.either-2.ensures,
      c.either.ensures,
      at-0,
      at-1,
      at-2,
      at-3,
      at-4,
    ) refl
