use Rattle.ps_facts.specs.NamesShown.{names_shown}
use Rattle.ps_causes.specs.Causes.{AreNamesBefore}
use Rattle.ps_causes.proofs.glyphs.first_unknown.Given as goal

-- the characters passed by are names
abbrev pub invariant-loop-at : goal.invariant-loop-at
invariant-loop-at l = AreNamesBefore (names_shown l.names) l.characters l.at
