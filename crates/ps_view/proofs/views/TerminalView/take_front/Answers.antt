use Rattle.std.proofs.Common.{◌≡◌, ◌∙◌, sym, ap, true, false}
use Rattle.ps_view.specs.Views.{View}
use Rattle.ps_view.proofs.Steps.{front_behind, over_behind}
use Rattle.ps_view.proofs.views.TerminalView.take_front.Goals as goal

pub returns-then-self : goal.returns-then-self
returns-then-self c =
    let over : c.args.self.now.is_over ≡ true =
    sym (ap (λ (view : View). view.is_over) c.self.view_is) ∙ c.if-self.true in
    sym (over_behind c.args.self.now c.args.bytes.now over)

pub returns : goal.returns
returns c =
    let goes : c.args.self.now.is_over ≡ false =
    sym (ap (λ (view : View). view.is_over) c.self.view_is) ∙ c.if-self.false in
    c.in_ok-gather.ensures ∙ sym (front_behind c.args.self.now c.args.bytes.now goes c.requires)
