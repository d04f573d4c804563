use Rattle.std.proofs.Common.{arith, ◌≡◌, ◌∙◌, ◌∷◌, ◌+◌, suc, ℕ, true, false, List, Some, ap, drop}
use Rattle.ps_model.specs.declared.faults.FaultKind.TheVariants.{Impossible}
use Rattle.ps_model.specs.rules.SourceRules.{SourceRule}
use Rattle.ps_model.specs.meaning.ReadingMeanings.{has_possible}
use Rattle.ps_rules.proofs.Loops.{drop-at}
use Rattle.ps_game.proofs.ImpossibleRules.{told_behind, told_here}
use Rattle.ps_game.proofs.possible.first_impossible.Goals as goal

pub returns-then-not-branch : goal.returns-then-not-branch
returns-then-not-branch c =
    let i : ℕ = c.loop-rule.rule-index in
    let rules : List SourceRule = c.args.rules.now in
    let next : i + 1 ≡ suc i = omega arith in
    let here : drop i rules ≡ c.rule-item.result ∷ drop (i + 1) rules =
    drop-at c.rule-item.result rules i (i + 1) c.loop-rule-test.true c.rule-item.is next in
    let none : has_possible c.args.names.now c.rule-item.result ≡ false =
    cc (c.in_ok-has_possible.ensures, c.if-not-branch.true) in
    ap (λ (line : ℕ). Some (record { kind = Impossible; line = line })) c.line.ensures
    ∙ told_here c.args.names.now c.rule-item.result (drop (i + 1) rules) (drop i rules) _ here none
    c.loop-rule.invariant

pub loop-rule-preserved : goal.loop-rule-preserved
loop-rule-preserved c =
    let i : ℕ = c.loop-rule.rule-index in
    let rules : List SourceRule = c.args.rules.now in
    let next : i + 1 ≡ suc i = omega arith in
    let here : drop i rules ≡ c.rule-item.result ∷ drop (i + 1) rules =
    drop-at c.rule-item.result rules i (i + 1) c.loop-rule-test.true c.rule-item.is next in
    let some : has_possible c.args.names.now c.rule-item.result ≡ true =
    cc (c.in_ok-has_possible.ensures, c.if-not-branch.false) in
    told_behind c.args.names.now c.rule-item.result (drop (i + 1) rules) (drop i rules) _ here some
    c.loop-rule.invariant
