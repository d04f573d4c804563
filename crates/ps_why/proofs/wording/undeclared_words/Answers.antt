use Rattle.ps_why.proofs.wording.undeclared_words.Goals as goal

pub returns : goal.returns
returns c = rw (← c.in_ok-more.ensures) c.in_ok-words.ensures.ok
