use Rattle.std.proofs.Common.{◌≡◌, ◌<◌, ◌+◌, ◌∙◌, sym, refl, rules, arith, true, false, get_or}
use Rattle.ps_model.specs.text.LineNumbers.{line_at}
use Rattle.ps_model.specs.names.ObjectLines.{is_sprite_row}
use Rattle.ps_names.proofs.written.ObjectSteps.{row-step, row-stop}
use Rattle.ps_names.proofs.objects.sprite_rows.Goals as goal

pub returns-then-not-branch-clause-rows : goal.returns-then-not-branch-clause-rows
returns-then-not-branch-clause-rows c =
    let few : c.loop-line.rows < 5 = omega (arith, c.loop-line.invariant.few, c.if-rows-eq-SPRITE_ROWS.false) in
    let isnt : is_sprite_row (line_at c.args.source.now (get_or c.args.lines.now c.loop-line.line-index 0)) ≡ false =
    search rules in
    sym (row-stop c.args.source.now c.args.lines.now c.loop-line.rows c.loop-line.line-index _ 0 c.loop-line-test.true
    refl few isnt) ∙ c.loop-line.invariant.rows

pub loop-line-preserved : goal.loop-line-preserved
loop-line-preserved c =
    let few : c.loop-line.rows < 5 = omega (arith, c.loop-line.invariant.few, c.if-rows-eq-SPRITE_ROWS.false) in
    let is : is_sprite_row (line_at c.args.source.now (get_or c.args.lines.now c.loop-line.line-index 0)) ≡ true =
    search rules in
    record {
      few = omega arith;
      rows =
          row-step c.args.source.now c.args.lines.now c.loop-line.rows c.loop-line.line-index
          (c.loop-line.line-index + 1) _ 0 c.loop-line-test.true (omega arith) refl few is
          ∙ c.loop-line.invariant.rows;
    }
