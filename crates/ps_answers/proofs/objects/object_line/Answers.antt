use Rattle.serde_json.specs.View.{view}
use Rattle.ps_answers.proofs.ObjectsPlain.{line_made}
use Rattle.ps_answers.proofs.objects.object_line.Goals as goal

pub returns : goal.returns
returns c =
    line_made c.args.name.now c.args.level c.args.solved.now (view c.in_ok-told.told) c.in_ok-line.line.items
    c.in_ok-told.ensures c.in_ok-line.ensures
