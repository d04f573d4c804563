use Rattle.std.proofs.Common.{◌∙◌}
use Rattle.ps_program.specs.ProgramShown.{cell_shown}
use Rattle.ps_compile.proofs.LayerValues.{fails-as-named}
use Rattle.ps_compile.proofs.idle.is_void_cell.Goals as goal

pub returns : goal.returns
returns c = c.fails_where_named.ensures ∙ fails-as-named c.args.names.now (cell_shown c.args.cell.now)
