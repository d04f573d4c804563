use Rattle.std.proofs.Common.{◌∙◌, ◌++◌, ℕ, List, ap, append_assoc}
use Rattle.ps_view.specs.Orders.{at_row, closing_orders}
use Rattle.ps_view.proofs.changes.add_closing.Goals as goal

pub returns : goal.returns
returns c =
    c.in_ok-add.ensures.added
    ∙ ap (λ (orders : List ℕ). orders ++ closing_orders) c.in_ok-add_at_row.ensures
    ∙ append_assoc c.args.orders.now (at_row c.args.number) closing_orders
