use Rattle.std.proofs.Common.{arith}
use Rattle.ps_text.proofs.Faults.{no_fault}
use Rattle.ps_text.proofs.sources.checked.Goals as goal

pub returns-in-Ok-clause-fine : goal.returns-in-Ok-clause-fine
returns-in-Ok-clause-fine c = no_fault c.args.bytes.now (omega arith) c.in-Ok.ensures.cases.1
