use Rattle.std.proofs.Common.{◌∙◌, sym, ap}
use Rattle.ps_board.specs.ColumnSets.{set_columns}
use Rattle.ps_places.proofs.Positions.{behind-none, behind-some}
use Rattle.ps_places.proofs.parts.behind_position.Goals as goal

pub returns-then-from : goal.returns-then-from
returns-then-from g c = ap set_columns c.none.ensures ∙ sym (behind-none c.args.set c.args.from c.if-from.true)

pub returns : goal.returns
returns g c =
    ap set_columns c.not_below.ensures ∙ behind-some c.args.set c.args.from
