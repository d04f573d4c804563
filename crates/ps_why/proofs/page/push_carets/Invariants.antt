use Rattle.std.proofs.Common.{◌≡◌, ◌+◌, ◌++◌, drop}
use Rattle.std.specs.Prelude.{string_bytes}
use Rattle.ps_why.specs.Page.{carets}
use Rattle.ps_why.proofs.page.push_carets.Given as goal

-- below the bytes passed by stands what belongs there, and the others lie ahead
abbrev pub invariant-loop-at : goal.invariant-loop-at
invariant-loop-at l =
    string_bytes l.page ++ carets l.marks (l.start + l.at) (drop l.at l.line)
    ≡ string_bytes l.initial.page ++ carets l.marks l.start l.line
