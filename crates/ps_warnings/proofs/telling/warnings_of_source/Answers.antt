use Rattle.std.proofs.Common.{rules}
use Rattle.ps_model.specs.text.Lines.{lines_of}
use Rattle.ps_warnings.proofs.WarningsMade.{lines_faulty}
use Rattle.ps_warnings.proofs.telling.warnings_of_source.Goals as goal

pub returns-in-Err-Refused : goal.returns-in-Err-Refused
returns-in-Err-Refused c =
    lines_faulty (lines_of c.args.source.now) c.in-Err-Refused.fault c.new.result.items
    (c.in-Err-Refused.ensures.refused c.in-Err-Refused.fault (search rules)) c.new.ensures.items
