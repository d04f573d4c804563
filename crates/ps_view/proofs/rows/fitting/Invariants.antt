use Rattle.std.proofs.Common.{◌≡◌, ◌+◌, drop}
use Rattle.ps_view.specs.Rows.{fitting}
use Rattle.ps_view.proofs.rows.fitting.Given as goal

-- the characters passed by fit, and so do those that fit into the columns that are left
abbrev pub invariant-loop-place : goal.invariant-loop-place
invariant-loop-place l = l.place + fitting l.left (drop l.place l.text) ≡ fitting l.columns l.text
