use Rattle.std.proofs.Common.{◌∙◌, ap, ap₂}
use Rattle.ps_view.specs.Screens.{keys_line, level_line}
use Rattle.ps_view.proofs.ShownRows.{three_lines}
use Rattle.ps_view.proofs.screens.line_rows.Goals as goal

pub returns : goal.returns
returns c =
    three_lines c.args.columns c.new-rows.result.items c.add_line.new.screen.items c.add_line-2.new.screen.items
    c.add_line-3.new.screen.items c.title.result.now c.bytes.result.now c.bytes-2.result.now _ _ _ c.new-rows.ensures.items
    c.in_ok-add_line.ensures c.in_ok-add_line-2.ensures c.in_ok-add_line-3.ensures c.title.ensures
    (c.bytes.ensures ∙ c.in_ok-level.ensures ∙ ap₂ level_line c.level.ensures c.note.ensures)
    (c.bytes-2.ensures ∙ c.in_ok-keys.ensures ∙ ap keys_line c.heard.ensures)
