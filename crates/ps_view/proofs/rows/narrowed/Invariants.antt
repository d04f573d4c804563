use Rattle.std.proofs.Common.{◌≡◌, take}
use Rattle.ps_view.specs.Rows.{narrowed}
use Rattle.ps_view.proofs.rows.narrowed.Given as goal

-- the characters passed by
abbrev pub invariant-loop-character : goal.invariant-loop-character
invariant-loop-character l = l.row ≡ narrowed l.columns (take l.character-index l.text)
