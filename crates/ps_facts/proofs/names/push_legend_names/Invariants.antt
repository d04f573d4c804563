use Rattle.std.proofs.Common.{◌≡◌, ◌++◌}
use Rattle.std.specs.List.{flat_map}
use Rattle.ps_model.specs.declared.texts.Section.TheVariants.{Legend}
use Rattle.ps_facts.specs.Declarations.{names_of_line}
use Rattle.ps_facts.specs.NamesShown.{names_shown, own_lines_from}
use Rattle.ps_facts.proofs.names.push_legend_names.Given as goal

-- the names of the lines passed by are put last, and the other lines lie ahead
abbrev pub invariant-loop-line : goal.invariant-loop-line
invariant-loop-line l = names_shown l.names.items ++ flat_map names_of_line (own_lines_from l.source Legend l.line) ≡
    names_shown l.initial.names.items ++ flat_map names_of_line (own_lines_from l.source Legend 1)
