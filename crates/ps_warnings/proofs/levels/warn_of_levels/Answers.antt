use Rattle.std.proofs.Common.{arith}
use Rattle.ps_warnings.proofs.EntriesWarned.{all_warned}
use Rattle.ps_warnings.proofs.levels.warn_of_levels.Goals as goal

pub returns : goal.returns
returns c =
    all_warned c.args.names.now c.args.numbers.now c.args.entries.now c.loop-at.at c.min-at-end.result
    c.loop-at.told.items _ c.min-at-end.ensures (omega arith) c.loop-at.invariant
