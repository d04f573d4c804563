use Rattle.std.proofs.Common.{rules}
use Rattle.ps_warnings.proofs.WarningsMade.{none_of_refused}
use Rattle.ps_warnings.proofs.telling.warnings.Goals as goal

pub returns-in-Err-Refused : goal.returns-in-Err-Refused
returns-in-Err-Refused c =
    none_of_refused c.args.text.now c.in-Err-Refused.fault c.new.result.items
    (c.in-Err-Refused.ensures.read.1 c.in-Err-Refused.fault (search rules)) c.new.ensures.items
