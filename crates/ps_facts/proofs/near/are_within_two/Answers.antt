use Rattle.std.proofs.Common.{◌∙◌, ℕ, List, drop, ap, arith}
use Rattle.ps_facts.proofs.Nearness.{bytes_within_two}
use Rattle.ps_facts.proofs.near.are_within_two.Goals as goal

pub returns-then-are_within_one : goal.returns-then-are_within_one
returns-then-are_within_one c = λ _.
    bytes_within_two c.args.word.now c.args.other.now c.behind_first.result.now c.behind_first-2.result.now
    c.same_front-front.result 1 1 c.same_front-front.ensures.same (omega arith) (omega arith)
    (c.behind_first.ensures ∙ ap (λ (rest : List ℕ). drop 1 rest) c.behind-rest.ensures)
    (c.behind_first-2.ensures ∙ ap (λ (rest : List ℕ). drop 1 rest) c.behind-other_rest.ensures)
    (c.are_within_one.ensures c.if-are_within_one.true)

pub returns-then-are_within_one-2 : goal.returns-then-are_within_one-2
returns-then-are_within_one-2 c = λ _.
    bytes_within_two c.args.word.now c.args.other.now c.behind_first-3.result.now c.behind-other_rest.result.now
    c.same_front-front.result 1 0 c.same_front-front.ensures.same (omega arith) (omega arith)
    (c.behind_first-3.ensures ∙ ap (λ (rest : List ℕ). drop 1 rest) c.behind-rest.ensures) c.behind-other_rest.ensures
    (c.are_within_one-2.ensures c.if-are_within_one-2.true)

pub returns : goal.returns
returns c = λ told.
    bytes_within_two c.args.word.now c.args.other.now c.behind-rest.result.now c.behind_first-4.result.now
    c.same_front-front.result 0 1 c.same_front-front.ensures.same (omega arith) (omega arith) c.behind-rest.ensures
    (c.behind_first-4.ensures ∙ ap (λ (rest : List ℕ). drop 1 rest) c.behind-other_rest.ensures) (c.are_within_one-3.ensures told)
