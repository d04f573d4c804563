use Rattle.std.proofs.Common.{◌≡◌, ◌+◌}
use Rattle.ps_model.specs.declared.texts.Section.TheVariants.{Objects}
use Rattle.ps_facts.specs.NamesShown.{own_lines_from}
use Rattle.ps_facts.proofs.object_lines.object_line_below.Given as goal

-- the lines passed by are others
abbrev pub invariant-loop-below : goal.invariant-loop-below
invariant-loop-below l = own_lines_from l.source Objects l.below ≡ own_lines_from l.source Objects (l.line + 1)
