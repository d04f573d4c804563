use Rattle.std.proofs.Common.{sym, subst}
use Rattle.ps_rows.specs.Packings.{Packed}
use Rattle.ps_solve.specs.SpotKeys.{KeepsBoards}
use Rattle.ps_solve.proofs.KeptKeys.{kept_twice}
use Rattle.ps_solve.proofs.spot_keys.SpotKeys.number_restart.Goals as goal

pub returns-clause-kept : goal.returns-clause-kept
returns-clause-kept g c =
    kept_twice c.args.self.now c.pack_board.new.self c.number_of.new.self c.pack_board.ensures.kept
    c.number_of.ensures.kept

pub returns-clause-boards : goal.returns-clause-boards
returns-clause-boards g c =
    subst (λ (packed : Packed). KeepsBoards c.args.self.now.packed packed) (sym c.number_of.ensures.packed)
    c.pack_board.ensures.boards
