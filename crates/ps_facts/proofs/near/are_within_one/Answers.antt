use Rattle.std.proofs.Common.{◌∙◌, ℕ, List, drop, ap, arith}
use Rattle.ps_facts.proofs.Nearness.{bytes_within_one}
use Rattle.ps_facts.proofs.near.are_within_one.Goals as goal

pub returns-then-eq_ignore_ascii_case : goal.returns-then-eq_ignore_ascii_case
returns-then-eq_ignore_ascii_case c = λ _.
    bytes_within_one c.args.word.now c.args.other.now c.behind_first.result.now c.behind_first-2.result.now
    c.same_front-front.result 1 1 c.same_front-front.ensures.same (omega arith) (omega arith)
    (c.behind_first.ensures ∙ ap (λ (rest : List ℕ). drop 1 rest) c.behind-rest.ensures)
    (c.behind_first-2.ensures ∙ ap (λ (rest : List ℕ). drop 1 rest) c.behind-other_rest.ensures)
    (c.eq_ignore_ascii_case.ensures.test.0 c.if-eq_ignore_ascii_case.true)

pub returns-then-eq_ignore_ascii_case-2 : goal.returns-then-eq_ignore_ascii_case-2
returns-then-eq_ignore_ascii_case-2 c = λ _.
    bytes_within_one c.args.word.now c.args.other.now c.behind_first-3.result.now c.behind-other_rest.result.now
    c.same_front-front.result 1 0 c.same_front-front.ensures.same (omega arith) (omega arith)
    (c.behind_first-3.ensures ∙ ap (λ (rest : List ℕ). drop 1 rest) c.behind-rest.ensures) c.behind-other_rest.ensures
    (c.eq_ignore_ascii_case-2.ensures.test.0 c.if-eq_ignore_ascii_case-2.true)

pub returns : goal.returns
returns c = λ told.
    bytes_within_one c.args.word.now c.args.other.now c.behind-rest.result.now c.behind_first-4.result.now
    c.same_front-front.result 0 1 c.same_front-front.ensures.same (omega arith) (omega arith) c.behind-rest.ensures
    (c.behind_first-4.ensures ∙ ap (λ (rest : List ℕ). drop 1 rest) c.behind-other_rest.ensures) (c.eq_ignore_ascii_case-3.ensures.test.0 told)
