use Rattle.std.proofs.Common.{◌≡◌, ◌++◌, drop}
use Rattle.ps_facts.specs.NamesShown.{names_shown}
use Rattle.ps_warnings.specs.ObjectWarnings.{warned_by}
use Rattle.ps_warnings.proofs.objects.warn_of_each.Given as goal

-- what is left comes to the whole
abbrev pub invariant-loop-named : goal.invariant-loop-named
invariant-loop-named l =
    l.told.items ++ warned_by l.names l.used (names_shown (drop l.named-index l.declared))
    ≡ l.initial.told.items ++ warned_by l.names l.initial.used (names_shown l.declared)
