use Rattle.ps_causes.proofs.hints.hint_outside.Goals as goal

pub returns : goal.returns
returns c = λ text _. c.hint_by_key_words-hint.ensures text
