use Rattle.std.proofs.Common.{◌≡◌, ◌∙◌, ◌+◌, ◌++◌, List, ap, sym, refl}
use Rattle.ps_model.specs.text.Lines.{Line}
use Rattle.ps_model.specs.text.LineNumbers.{here, line_at}
use Rattle.ps_levels.specs.ToldLevels.{told_rows}
use Rattle.ps_laws.proofs.common.LinesInOrder.{here-there, here-not}
use Rattle.ps_levels.proofs.ToldSteps.{row-told}
use Rattle.ps_levels.proofs.telling_rows.tell_line.Goals as goal

pub returns-then-not-is_there-clause-told : goal.returns-then-not-is_there-clause-told
returns-then-not-is_there-clause-told c = λ rest.
    ap (λ (ls : List Line). c.args.told.now.items ++ told_rows c.args.names.now c.args.place.width c.args.place.above
    (ls ++ rest)) (sym (here-not c.args.source.now c.args.line (sym c.is_there.ensures ∙ c.if-not-is_there.true)))

pub returns-clause-told : goal.returns-clause-told
returns-clause-told c = λ rest.
    row-told c.args.names.now c.args.place.width c.args.place.above (c.args.place.above + 1)
    (line_at c.args.source.now c.args.line) c.args.told.now.items c.tell_row.new.told.items
    (here c.args.source.now c.args.line) rest refl
    (here-there c.args.source.now c.args.line (sym c.is_there.ensures ∙ c.if-not-is_there.false))
    c.in_ok-tell_row.ensures
