use Rattle.std.proofs.Common.{◌≡◌, drop}
use Rattle.ps_facts.specs.Declarations.{is_one_of}
use Rattle.ps_facts.specs.NamesShown.{names_shown}
use Rattle.ps_facts.proofs.names.is_among.Given as goal

-- the names passed by are others
abbrev pub invariant-loop-named : goal.invariant-loop-named
invariant-loop-named l = is_one_of (names_shown (drop l.named-index l.names)) l.name ≡ is_one_of (names_shown l.names)
    l.name
