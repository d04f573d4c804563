use Rattle.std.proofs.Common.{◌≡◌, [], drop}
use Rattle.ps_names.specs.Known.{mentions_shown}
use Rattle.ps_names.specs.Flattened.{merged, all_spoken, spoken_by}
use Rattle.ps_names.proofs.spoken.objects_merged.Given as goal

abbrev pub invariant-loop-mention : goal.invariant-loop-mention
invariant-loop-mention l =
    merged l.objects.items (all_spoken (spoken_by l.lists) (mentions_shown (drop l.mention-index l.mentions))) ≡ merged
    [] (all_spoken (spoken_by l.lists) (mentions_shown l.mentions))
