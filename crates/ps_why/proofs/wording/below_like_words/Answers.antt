use Rattle.ps_why.proofs.wording.below_like_words.Goals as goal

pub returns : goal.returns
returns c = rw (← c.section_name-name.ensures) c.in_ok-words.ensures.ok
