use Rattle.ps_why.proofs.wording.twice_words.Goals as goal

pub returns : goal.returns
returns c = rw (← c.case_words-case.ensures) c.in_ok-words.ensures.ok
