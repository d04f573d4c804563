use Rattle.std.proofs.Common.{◌∙◌, ap, Some, take, List, ℕ}
use Rattle.ps_devices.proofs.Pieces.{left_more}
use Rattle.ps_devices.proofs.in_memory.MemoryReaderByteReader.read_some.Goals as goal

pub returns-clause-given : goal.returns-clause-given
returns-clause-given c = ap Some
    (left_more c.args.self.now.bytes.now c.copy_front.new.buffer c.args.self.now.place c.min-count.result
    (c.copy_front.ensures.front ∙ ap (λ (rest : List ℕ). take c.min-count.result rest) c.split_at.ensures.back))
