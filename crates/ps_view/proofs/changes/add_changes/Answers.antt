use Rattle.ps_view.proofs.Steps.{gathered_more}
use Rattle.ps_view.specs.Screens.{row_change}
use Rattle.ps_view.proofs.changes.add_changes.Goals as goal

pub loop-place-preserved : goal.loop-place-preserved
loop-place-preserved c =
    gathered_more (row_change c.args.before.now c.args.screen.now) c.loop-place.place c.args.orders.now
    c.loop-place.orders _ c.loop-place.invariant c.in_ok-add_row_change.ensures
