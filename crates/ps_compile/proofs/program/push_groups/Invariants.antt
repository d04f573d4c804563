use Rattle.std.proofs.Common.{◌≡◌, ◌++◌}
use Rattle.std.specs.Prelude.{map}
use Rattle.ps_model.specs.board.RuleSections.{Group}
use Rattle.ps_program.specs.ProgramShown.{groups_shown, sections_shown}
use Rattle.ps_compile.proofs.program.push_groups.Given as goal

abbrev pub invariant-loop-group : goal.invariant-loop-group
invariant-loop-group l = sections_shown l.sections.items ≡ sections_shown l.initial.sections.items ++ map Group
    (groups_shown l.yielded)
