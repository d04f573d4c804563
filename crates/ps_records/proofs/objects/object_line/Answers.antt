use Rattle.std.specs.Prelude.{string_bytes}
use Rattle.serde_json.specs.View.{view}
use Rattle.ps_records.proofs.ObjectsPlain.{line_made}
use Rattle.ps_records.proofs.objects.object_line.Goals as goal

pub returns : goal.returns
returns c =
    line_made c.args.game.now c.args.file.now c.args.replay.now (view c.in_ok-told.told)
    (string_bytes c.in_ok-line.line) c.in_ok-told.ensures c.in_ok-line.ensures
