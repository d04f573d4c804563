use Rattle.std.proofs.Common.{◌≡◌, ◌+◌, ◌<◌, Some, true, ℕ}
use Rattle.std.specs.Prelude.{slice_get}
use Rattle.ps_program.specs.declared.cells.CompiledCell.{CompiledCell}
use Rattle.ps_places.specs.LeavingAlone.{leave_alone}
use Rattle.ps_places.proofs.leaving_alone.are_independent.Given as goal

-- the cells passed by leave those before them alone
abbrev pub invariant-loop-number : goal.invariant-loop-number
invariant-loop-number l =
    (k : ℕ) (first second : CompiledCell) → k + l.fn.distance < l.number → slice_get l.part k ≡ Some first →
    slice_get l.part (k + l.fn.distance) ≡ Some second → leave_alone first second ≡ true
