use Rattle.ps_rows.specs.PlaneTopics.{AreMotionsOfBoth}
use Rattle.ps_rows.proofs.row_board.RowBoard.differing_motions.Given as goal

-- the planes of the motions on the layers below the number are told
abbrev pub invariant-loop-layer : goal.invariant-loop-layer
invariant-loop-layer g l =
    AreMotionsOfBoth l.self.members.table.items l.self.planes.height l.self.planes.words.items
    l.other.planes.words.items l.topics l.layer
