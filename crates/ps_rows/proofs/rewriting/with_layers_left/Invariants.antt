use Rattle.std.proofs.Common.{◌≡◌, ◌<◌, ◌&&◌, ◌||◌, ℕ, take}
use Rattle.ps_model.specs.declared.limits.TheConstants.{SIDE_LIMIT}
use Rattle.ps_board.specs.ColumnSets.{column_at}
use Rattle.ps_rows.specs.LayersTouched.{is_reached, loses_one}
use Rattle.ps_rows.proofs.rewriting.with_layers_left.Given as goal

-- those passed by are in the set
abbrev pub invariant-loop-each : goal.invariant-loop-each
invariant-loop-each l = (x : ℕ) → x < SIDE_LIMIT →
    column_at l.all x ≡ (column_at l.fn.layers x || (is_reached l.count x && loses_one (take l.each-index l.gone) x))
