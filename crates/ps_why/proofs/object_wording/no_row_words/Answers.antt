use Rattle.ps_why.proofs.object_wording.no_row_words.Goals as goal

pub returns : goal.returns
returns c = rw (c.in-Some.is, ← c.in_ok-why.ensures) c.in_ok-words.ensures.ok
