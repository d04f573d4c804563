use Rattle.std.proofs.Common.{◌≡◌, ◌∙◌, sym, ap, true}
use Rattle.ps_view.specs.Views.{View}
use Rattle.ps_view.proofs.views.TerminalView.draw_anew.Goals as goal

pub returns-then-self-clause-added : goal.returns-then-self-clause-added
returns-then-self-clause-added c =
    let is_open : c.args.self.now.is_open ≡ true =
    sym (ap (λ (view : View). view.is_open) c.self.view_is) ∙ c.if-self.true in rw is_open c.draw_in.ensures.added
