use Rattle.std.proofs.Common.{map}
use Rattle.serde_json.specs.View.{view}
use Rattle.ps_records.proofs.ObjectsPlain.{object_made}
use Rattle.ps_records.proofs.objects.replay_object.Goals as goal

pub returns : goal.returns
returns c =
    object_made c.args.game.now c.args.file.now c.args.replay.now (map view c.in_ok-counts.counts.items)
    c.deref.result.now (view c.in_ok-told.told) c.in_ok-told.ensures c.in_ok-counts.ensures c.deref.ensures.value
