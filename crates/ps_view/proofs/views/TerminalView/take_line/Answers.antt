use Rattle.std.proofs.Common.{◌≡◌, ◌∙◌, ◌++◌, ℕ, List, [], ◌∷◌, sym, ap, append-nil, true, false, subst}
use Rattle.std.proofs.lemmas.Result.{on_ok_weaker}
use Rattle.std.specs.Prelude.{OnOk}
use Rattle.ps_view.specs.LineKinds.{kind_of}
use Rattle.ps_view.specs.Views.{View, line_told}
use Rattle.ps_view.proofs.Steps.{line_behind, line_handed_on, over_behind, over_handed_on, whole_row_behind}
use Rattle.ps_view.proofs.Steps.{whole_row_handed_on}
use Rattle.ps_view.proofs.views.TerminalView.take_line.Goals as goal

pub returns-then-self-clause-view : goal.returns-then-self-clause-view
returns-then-self-clause-view c =
    let over : c.args.self.now.is_over ≡ true =
    sym (ap (λ (view : View). view.is_over) c.self.view_is) ∙ c.if-self.true in
    sym (over_behind c.args.self.now (c.args.bytes.now ++ 10 ∷ []) over)

pub returns-then-self-clause-added : goal.returns-then-self-clause-added
returns-then-self-clause-added c =
    let over : c.args.self.now.is_over ≡ true =
    sym (ap (λ (view : View). view.is_over) c.self.view_is) ∙ c.if-self.true in
    sym (append-nil c.args.orders.now) ∙ ap (λ (more : List ℕ). c.args.orders.now ++ more)
    (sym (over_handed_on c.args.self.now (c.args.bytes.now ++ 10 ∷ []) over))

pub returns-then-is_whole_row-clause-view : goal.returns-then-is_whole_row-clause-view
returns-then-is_whole_row-clause-view c =
    let goes : c.args.self.now.is_over ≡ false =
    sym (ap (λ (view : View). view.is_over) c.self.view_is) ∙ c.if-self.false in
    rw (whole_row_behind c.args.self.now c.args.bytes.now goes c.requires
    (c.is_whole_row.ensures.whole c.if-is_whole_row.true) (c.is_whole_row.ensures.row c.if-is_whole_row.true))
    c.add_whole_row.ensures

pub returns-then-is_whole_row-clause-added : goal.returns-then-is_whole_row-clause-added
returns-then-is_whole_row-clause-added c =
    let goes : c.args.self.now.is_over ≡ false =
    sym (ap (λ (view : View). view.is_over) c.self.view_is) ∙ c.if-self.false in
    let handed = whole_row_handed_on c.args.self.now c.args.bytes.now goes c.requires
    (c.is_whole_row.ensures.whole c.if-is_whole_row.true) (c.is_whole_row.ensures.row c.if-is_whole_row.true) in
    on_ok_weaker c.add_whole_row.result
    (λ _. sym (append-nil c.args.orders.now) ∙ ap (λ (more : List ℕ). c.args.orders.now ++ more) (sym handed))
    c.add_whole_row.ensures

pub returns-clause-view : goal.returns-clause-view
returns-clause-view c =
    let goes : c.args.self.now.is_over ≡ false =
    sym (ap (λ (view : View). view.is_over) c.self.view_is) ∙ c.if-self.false in
    let told : View → Type 0 = λ view.
    OnOk c.end_line.result (c.end_line.new.self ≡ (line_told view (kind_of view.line)).view) in
    rw (line_behind c.args.self.now c.args.bytes.now goes c.requires)
    (subst told c.in_ok-gather.ensures c.end_line.ensures.view)

pub returns-clause-added : goal.returns-clause-added
returns-clause-added c =
    let goes : c.args.self.now.is_over ≡ false =
    sym (ap (λ (view : View). view.is_over) c.self.view_is) ∙ c.if-self.false in
    let told : View → Type 0 = λ view. OnOk c.end_line.result
    (c.end_line.new.orders ≡ c.args.orders.now ++ (line_told view (kind_of view.line)).bytes) in
    rw (line_handed_on c.args.self.now c.args.bytes.now goes c.requires)
    (subst told c.in_ok-gather.ensures c.end_line.ensures.added)
