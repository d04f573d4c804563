use Rattle.std.proofs.Common.{◌≡◌, ◌∙◌, ℕ, ◌+◌, Bool, List, true, not, sym, ap, arith}
use Rattle.ps_board.specs.ColumnSets.{column_at}
use Rattle.ps_match.specs.Topics.{object_topic}
use Rattle.ps_rows.proofs.TopicsTold.{one_object_more}
use Rattle.ps_rows.proofs.row_board.RowBoard.differing_objects.Goals as goal

pub loop-object-preserved : goal.loop-object-preserved
loop-object-preserved g c =
    let p = c.args.self.now.planes in
    let n : ℕ = c.loop-object.object in
    let more : List Bool = c.with_topic-topics.result in
    let wanted : not c.has_same_plane-same.result ≡ true → column_at more (object_topic n) ≡ true =
    λ yes. ap (column_at more) (sym c.object_topic.ensures.topic) ∙ c.with_topic-topics.ensures.here yes in
    one_object_more p.height p.words.items c.args.other.now.planes.words.items c.loop-object.topics more n (n + 1)
    c.has_same_plane-same.result c.with_topic-topics.ensures.kept wanted c.has_same_plane-same.ensures (omega arith)
    c.loop-object.invariant
