use Rattle.std.proofs.Common.{◌≡◌, ◌∙◌, ℕ, ◌+◌, Bool, List, true, not, sym, ap, refl}
use Rattle.ps_board.specs.ColumnSets.{column_at}
use Rattle.ps_match.specs.Topics.{motion_topic}
use Rattle.ps_rows.proofs.TopicsTold.{one_layer_more}
use Rattle.ps_rows.proofs.row_board.RowBoard.differing_motions.Goals as goal

pub loop-layer-preserved : goal.loop-layer-preserved
loop-layer-preserved g c =
    let b = c.args.self.now in
    let n : ℕ = c.loop-layer.layer in
    let more : List Bool = c.with_topic-topics.result in
    let wanted : not c.has_same_motions-same.result ≡ true → column_at more (motion_topic n) ≡ true =
    λ yes. ap (column_at more) (sym c.motion_topic.ensures.topic) ∙ c.with_topic-topics.ensures.here yes in
    one_layer_more b.members.table.items b.planes.height b.planes.words.items c.args.other.now.planes.words.items
    c.loop-layer.topics more n (n + 1) c.has_same_motions-same.result c.with_topic-topics.ensures.kept wanted
    c.has_same_motions-same.ensures refl c.loop-layer.invariant
