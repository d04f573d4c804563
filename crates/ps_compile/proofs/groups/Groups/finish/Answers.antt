use Rattle.std.specs.Prelude.{option_map}
use Rattle.ps_compile.specs.OpenGroups.{open_shown}
use Rattle.ps_compile.proofs.MadePieces.{finished}
use Rattle.ps_compile.proofs.groups.Groups.finish.Goals as goal

pub returns : goal.returns
returns c names = finished names (option_map open_shown c.args.self.opened) _ _ c.in_ok-close_unless.ensures.closed
