use Rattle.std.proofs.Common.{◌≡◌, ◌+◌, nat_eq, drop}
use Rattle.ps_view.specs.Corners.{alike}
use Rattle.ps_view.proofs.cells.alike_characters.Given as goal

-- the characters passed by are alike
abbrev pub invariant-loop-place : goal.invariant-loop-place
invariant-loop-place l =
    l.place + alike nat_eq (drop l.place l.before) (drop l.place l.row) ≡ alike nat_eq l.before l.row
