use Rattle.std.proofs.Common.{◌≡◌, ◌++◌, drop}
use Rattle.ps_warnings.specs.Marks.{is_marked}
use Rattle.ps_warnings.specs.NameWarnings.{warned_of_names}
use Rattle.ps_warnings.proofs.names.warn_of_names.Given as goal

-- what is left comes to the whole
abbrev pub invariant-loop-line : goal.invariant-loop-line
invariant-loop-line l =
    l.told.items ++ warned_of_names (is_marked l.used) (drop l.line-index l.lines)
    ≡ l.initial.told.items ++ warned_of_names (is_marked l.used) l.lines
