use Rattle.std.proofs.Common.{◌≡◌, ◌∷◌, ◌++◌, replicate}
use Rattle.ps_view.proofs.parts.add_cell.Given as goal

-- the character, and the blanks so far
abbrev pub invariant-loop-blank : goal.invariant-loop-blank
invariant-loop-blank l = l.cells ≡ l.fn.cells ++ l.fn.character ∷ replicate l._blank 32
