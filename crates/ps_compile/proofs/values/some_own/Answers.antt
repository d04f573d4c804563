use Rattle.std.proofs.Common.{◌∙◌, sym, arith}
use Rattle.ps_model.specs.names.Names.{object_count}
use Rattle.ps_program.specs.ProgramShown.{cell_shown}
use Rattle.ps_compile.specs.LayerValues.{own_passes}
use Rattle.ps_compile.proofs.LayerValues.{below-in}
use Rattle.ps_compile.proofs.values.some_own.Goals as goal

pub returns-then-own_passes : goal.returns-then-own_passes
returns-then-own_passes c =
    sym (below-in (own_passes c.args.names.now (cell_shown c.args.cell.now) c.args.changed c.args.layer.0)
    (object_count c.args.names.now) c.loop-number.number (omega (arith, c.loop-number-test.true, c.object_count-number-end.ensures.count))
    (sym c.own_passes.ensures ∙ c.if-own_passes.true))
