use Rattle.std.proofs.Common.{arith}
use Rattle.ps_warnings.proofs.CommonBytes.{all_common}
use Rattle.ps_warnings.proofs.near_words.common.Goals as goal

pub returns-clause-common : goal.returns-clause-common
returns-clause-common c =
    all_common c.args.word.now c.args.other.now c.loop-at.at c.min-shorter.result c.min-shorter.ensures (omega arith)
    c.loop-at.invariant
