use Rattle.std.proofs.Common.{◌∙◌, ap, map}
use Rattle.ps_program.specs.ProgramShown.{cell_shown}
use Rattle.ps_compile.specs.TurnedRows.{from_end}
use Rattle.ps_compile.proofs.TurnedRules.{shown-from_end}
use Rattle.ps_compile.proofs.rules.compiled_part.Goals as goal

pub returns : goal.returns
returns c =
    ap (map cell_shown) c.from_end.ensures ∙ shown-from_end c.args.backwards cell_shown c.in_ok-cells.cells.items
    ∙ ap (from_end c.args.backwards) c.in_ok-cells.ensures
