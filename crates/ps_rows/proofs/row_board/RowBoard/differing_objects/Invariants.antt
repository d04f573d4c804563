use Rattle.ps_rows.specs.PlaneTopics.{AreObjectsOfBoth}
use Rattle.ps_rows.proofs.row_board.RowBoard.differing_objects.Given as goal

-- the planes of the objects below the number are told
abbrev pub invariant-loop-object : goal.invariant-loop-object
invariant-loop-object g l =
    AreObjectsOfBoth l.self.planes.height l.self.planes.words.items l.other.planes.words.items l.topics l.object
