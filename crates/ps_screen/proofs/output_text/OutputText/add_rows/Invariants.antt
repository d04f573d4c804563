use Rattle.std.proofs.Common.{◌≡◌, ◌++◌, take}
use Rattle.std.specs.List.{flat_map}
use Rattle.ps_screen.proofs.output_text.OutputText.add_rows.Given as goal

-- the rows passed by
abbrev pub invariant-loop-row : goal.invariant-loop-row
invariant-loop-row l = l.self ≡ l.fn.self ++ flat_map (λ row. row) (take l.row-index l.rows)
