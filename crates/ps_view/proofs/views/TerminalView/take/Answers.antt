use Rattle.std.proofs.Common.{◌∙◌, ◌++◌, ℕ, List, [], ◌∷◌, append_assoc, append-nil, sym, ap, ap₂, refl}
use Rattle.ps_view.specs.Views.{View, handed_on, view_behind}
use Rattle.ps_view.proofs.Steps.{cut_behind, cut_handed_on, quiet_handed_on}
use Rattle.ps_view.proofs.views.TerminalView.take.Goals as goal

pub loop-line-preserved : goal.loop-line-preserved
loop-line-preserved c =
    let before = c.loop-line.self in
    let line = c.in-Some.line.now in
    let others = c.in-Some.others.now in
    let rest = c.loop-line.rest.now in
    record {
      view = ap (λ (view : View). view_behind view others) c.in_ok-take_line.ensures.view
          ∙ sym (cut_behind before rest line others c.in-Some.ensures.whole) ∙ c.loop-line.invariant.view;
      added = ap₂ (λ (orders : List ℕ) (view : View). orders ++ handed_on view others)
          c.in_ok-take_line.ensures.added c.in_ok-take_line.ensures.view
          ∙ append_assoc c.loop-line.orders (handed_on before (line ++ 10 ∷ [])) _
          ∙ ap (λ (more : List ℕ). c.loop-line.orders ++ more)
          (sym (cut_handed_on before rest line others c.in-Some.ensures.whole))
          ∙ c.loop-line.invariant.added;
    }

pub returns-clause-added : goal.returns-clause-added
returns-clause-added c =
    sym (append-nil c.loop-line.orders) ∙ ap (λ (more : List ℕ). c.loop-line.orders ++ more)
    (sym (quiet_handed_on c.loop-line.self c.loop-line.rest.now _ refl c.in_default.ensures))
    ∙ c.loop-line.invariant.added
