use Rattle.std.proofs.Common.{◌∙◌, ap, not}
use Rattle.ps_program.specs.ProgramShown.{cell_shown}
use Rattle.ps_compile.proofs.LayerValues.{changes-as-named}
use Rattle.ps_compile.proofs.idle.leaves_what_fits.Goals as goal

pub returns : goal.returns
returns c =
    ap not (c.changes_where_named.ensures ∙ changes-as-named c.args.names.now (cell_shown c.args.cell.now))
