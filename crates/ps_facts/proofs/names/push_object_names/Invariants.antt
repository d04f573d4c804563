use Rattle.std.proofs.Common.{◌≡◌, ◌++◌}
use Rattle.ps_model.specs.declared.texts.Section.TheVariants.{Objects}
use Rattle.ps_facts.specs.declared.objects.Place.TheVariants.{Between}
use Rattle.ps_facts.specs.NamesShown.{names_shown, own_lines_from}
use Rattle.ps_facts.specs.Objects.{names_from}
use Rattle.ps_facts.proofs.names.push_object_names.Given as goal

-- the names of the lines passed by are put last, and the other lines lie ahead
abbrev pub invariant-loop-line : goal.invariant-loop-line
invariant-loop-line l = names_shown l.names.items ++ names_from l.place (own_lines_from l.source Objects l.line) ≡
    names_shown l.initial.names.items ++ names_from Between (own_lines_from l.source Objects 1)
