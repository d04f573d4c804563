use Rattle.std.proofs.Common.{◌≡◌, ◌∙◌, ◌+◌, ◌++◌, List, ap, sym, refl, arith}
use Rattle.std.proofs.lemmas.List.{append-nil}
use Rattle.ps_model.specs.text.Lines.{Line}
use Rattle.ps_model.specs.text.LineNumbers.{lines_between}
use Rattle.ps_levels.specs.ToldLevels.{told_rows}
use Rattle.ps_laws.proofs.common.LinesInOrder.{between-step, between-end}
use Rattle.ps_levels.proofs.telling_rows.tell_rows.Goals as goal

pub loop-line-preserved : goal.loop-line-preserved
loop-line-preserved c =
    let text = c.args.source.now in
    let names = c.args.names.now in
    let line = c.loop-line.line in
    let end = c.args.lines.end in
    let step = between-step text line (line + 1) end (omega arith) (omega arith) (omega arith) refl in
    record {
      few = omega (arith, c.loop-line.invariant.few, c.in_ok-place.ensures.few);
      rest =
          c.in_ok-place.ensures.told (lines_between text (line + 1) end)
          ∙ ap (λ (ls : List Line). c.loop-line.told.items ++ told_rows names c.loop-line.place.width
          c.loop-line.place.above ls) (sym step) ∙ c.loop-line.invariant.rest;
    }

pub returns : goal.returns
returns c =
    let text = c.args.source.now in
    let gone = between-end text c.loop-line.line c.args.lines.end (omega arith) in
    sym (append-nil c.loop-line.told.items)
    ∙ ap (λ (ls : List Line). c.loop-line.told.items ++ told_rows c.args.names.now c.loop-line.place.width
    c.loop-line.place.above ls) (sym gone) ∙ c.loop-line.invariant.rest
