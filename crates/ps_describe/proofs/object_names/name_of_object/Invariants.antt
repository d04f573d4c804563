use Rattle.std.proofs.Common.{◌≡◌, drop}
use Rattle.ps_facts.specs.NamesShown.{names_shown}
use Rattle.ps_describe.specs.Descriptions.{name_of_object}
use Rattle.ps_describe.proofs.object_names.name_of_object.Given as goal

-- the names passed by stand for something else
abbrev pub invariant-loop-named : goal.invariant-loop-named
invariant-loop-named l = name_of_object l.names (names_shown (drop l.named-index l.declared)) l.object
    ≡ name_of_object l.names (names_shown l.declared) l.object
