use Rattle.ps_causes.proofs.hints.hint_in_rule.Goals as goal

pub returns-in-Nothing : goal.returns-in-Nothing
returns-in-Nothing c = λ text _. c.hint_by_key_words.ensures text
