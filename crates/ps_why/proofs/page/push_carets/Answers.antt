use Rattle.std.proofs.Common.{◌≡◌, ◌∙◌, ◌+◌, ◌++◌, ℕ, List, [], sym, ap, drop, true, arith}
use Rattle.std.proofs.lemmas.List.{append-nil}
use Rattle.std.proofs.lemmas.Bool.Decides.{nat_tests}
use Rattle.std.specs.Prelude.{nat_le, string_bytes}
use Rattle.ps_why.specs.Page.{carets}
use Rattle.ps_why.proofs.Pages.{none_behind}
use Rattle.ps_why.proofs.page.push_carets.Goals as goal

pub returns-then-start-at : goal.returns-then-start-at
returns-then-start-at c =
    let place : ℕ = c.args.start + c.loop-at.at in
    let page : List ℕ = string_bytes c.loop-at.page in
    let past : nat_le c.args.marks.mark.to place ≡ true = grind (arith, nat_tests) in
    let none : carets c.args.marks place (drop c.loop-at.at c.args.line.now) ≡ [] =
    none_behind c.args.marks place (drop c.loop-at.at c.args.line.now) past in
    sym (append-nil page) ∙ ap (λ (rest : List ℕ). page ++ rest) (sym none) ∙ c.loop-at.invariant
