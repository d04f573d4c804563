use Rattle.std.proofs.Common.{◌≡◌, ◌∙◌, ◌+◌}
use Rattle.std.specs.List.{take_while}
use Rattle.ps_model.specs.session.LevelLines.{is_row}
use Rattle.ps_model.specs.text.LineNumbers.{line_at, lines_between}
use Rattle.ps_levels.proofs.ToldSteps.{level-told}
use Rattle.ps_levels.proofs.telling_levels.tell_level.Goals as goal

pub returns-clause-told : goal.returns-clause-told
returns-clause-told c =
    let text = c.args.source.now in
    let start = c.args.lines.start in
    level-told c.args.names.now c.args.above c.in_ok-width.width (line_at text start)
    (take_while is_row (lines_between text (start + 1) c.args.lines.end))
    (lines_between text (start + 1) c.in_ok-end.end) c.args.told.now.items c.tell_row.new.told.items
    c.tell_too_many.new.told.items c.tell_rows.new.told.items c.in_ok-width.ensures.value c.in_ok-end.ensures.rows
    c.in_ok-tell_row.ensures c.in_ok-tell_too_many.ensures c.in_ok-tell_rows.ensures
