use Rattle.std.proofs.Common.{◌∙◌, refl}
use Rattle.ps_names.proofs.mentions.FlattenLaws.{merge-step}
use Rattle.ps_names.proofs.spoken.objects_merged.Goals as goal

pub loop-mention-preserved : goal.loop-mention-preserved
loop-mention-preserved c =
    merge-step c.args.lists.now c.args.mentions.now c.loop-mention.mention-index _ _ c.loop-mention.objects.items _
    c.loop-mention-test.true refl c.in_ok-merge_mention.ensures
    ∙ c.loop-mention.invariant
