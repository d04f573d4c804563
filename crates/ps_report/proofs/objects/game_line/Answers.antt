use Rattle.std.specs.Prelude.{string_bytes}
use Rattle.serde_json.specs.View.{view}
use Rattle.ps_report.proofs.ObjectsMade.{game_line_made}
use Rattle.ps_report.proofs.objects.game_line.Goals as goal

pub returns : goal.returns
returns c =
    game_line_made c.args.how c.args.name.now c.args.text.now c.args.game.now (view c.in_ok-told.told)
    (string_bytes c.in_ok-line.line) c.in_ok-told.ensures c.in_ok-line.ensures
