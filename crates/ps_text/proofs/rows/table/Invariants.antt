use Rattle.std.proofs.Common.{◌≡◌, ◌+◌, ◌-◌, ◌≤◌, ◌++◌, map, length}
use Rattle.std.specs.Prelude.{All}
use Rattle.std.specs.Str.{IsCharBoundary}
use Rattle.ps_model.specs.text.Lines.{lines_of}
use Rattle.ps_text.specs.Rows.{shown, lines_behind, IsRow}
use Rattle.ps_text.proofs.rows.table.Given as goal

abbrev pub invariant-loop-above : goal.invariant-loop-above
invariant-loop-above l =
    record {
      told : map (shown l.text) l.rows.items ++ lines_behind l.text l.above ≡ lines_of l.text;
      whole : All (IsRow l.text) l.rows.items;
      number : length l.rows.items + 1 ≡ l.above.number;
      some : 1 ≤ length l.rows.items;
      within : l.above.start ≤ length l.text + 1;
      depth : l.above.depth ≤ l.above.start;
      counted : l.above.number ≤ l.above.start + 1;
      cuttable : l.above.start ≤ length l.text → IsCharBoundary l.text l.above.start;
    }

abbrev pub decreases-loop-above : goal.decreases-loop-above
decreases-loop-above l = length l.text + 1 - l.above.start
