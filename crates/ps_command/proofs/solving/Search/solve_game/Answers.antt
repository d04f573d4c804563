use Rattle.std.proofs.Common.{Ok, ap}
use Rattle.ps_command.proofs.LinesOnLevels.{lacking_told}
use Rattle.ps_command.proofs.solving.Search.solve_game.Goals as goal

pub returns-in_ok-tell_lacking-in-Ok-None-clause-told : goal.returns-in_ok-tell_lacking-in-Ok-None-clause-told
returns-in_ok-tell_lacking-in-Ok-None-clause-told g c =
    lacking_told c.args.self.now.question c.args.path.now _ _ _
    (c.in-Ok-None.ensures.lacks (ap Ok c.in-Ok-None.field-0-is))
    (ap (λ writer. (g.O.ByteWriter.state writer).contents)
    (c.in-Ok-None.ensures.lacking (ap Ok c.in-Ok-None.field-0-is)))
