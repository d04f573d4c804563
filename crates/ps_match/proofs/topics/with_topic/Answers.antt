use Rattle.std.proofs.Common.{◌∙◌, ap, Bool, List}
use Rattle.ps_board.specs.ColumnSets.{column_at}
use Rattle.ps_match.proofs.TopicSets.{topic_added, topic_kept}
use Rattle.ps_match.proofs.topics.with_topic.Goals as goal

pub returns-then-wanted-clause-kept : goal.returns-then-wanted-clause-kept
returns-then-wanted-clause-kept c = λ each low on.
    ap (λ (set : List Bool). column_at set each) c.with.ensures ∙ topic_kept c.args.topics c.args.topic each low on

pub returns-then-wanted-clause-here : goal.returns-then-wanted-clause-here
returns-then-wanted-clause-here c = λ wanted.
    ap (λ (set : List Bool). column_at set c.args.topic) c.with.ensures
    ∙ topic_added c.args.topics c.args.topic c.requires
