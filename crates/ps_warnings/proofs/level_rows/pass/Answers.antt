use Rattle.std.proofs.Common.{rules, ◌≡◌, true}
use Rattle.ps_model.specs.text.LineNumbers.{line_at}
use Rattle.ps_model.specs.session.LevelLines.{is_row}
use Rattle.ps_warnings.proofs.RowsPassed.{row_here}
use Rattle.ps_warnings.proofs.level_rows.pass.Goals as goal

pub returns : goal.returns
returns c =
    let text = c.args.source.now in
    let there : (line_at text c.args.line).is_there ≡ true = search rules in
    let row : is_row (line_at text c.args.line) ≡ true = search rules in
    row_here text c.args.line c.args.above c.in_ok-own.own c.unwrap_or-width.result c.args.told.now.items
    c.warn_of_width.new.told.items c.requires.0 c.requires.1 there row c.in_ok-own.ensures c.unwrap_or-width.ensures
    c.in_ok-warn_of_width.ensures
