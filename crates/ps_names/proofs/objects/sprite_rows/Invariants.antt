use Rattle.std.proofs.Common.{◌≡◌, ◌+◌, ◌-◌, ◌≤◌, drop, take}
use Rattle.std.specs.List.{prefix_len}
use Rattle.ps_model.specs.names.ObjectLines.{is_sprite_row, sprite_rows}
use Rattle.ps_names.specs.LinesThere.{lines_at}
use Rattle.ps_names.proofs.objects.sprite_rows.Given as goal

abbrev pub invariant-loop-line : goal.invariant-loop-line
invariant-loop-line l =
    record {
      few : l.rows ≤ 5;
      rows : l.rows + prefix_len is_sprite_row (take (5 - l.rows) (lines_at l.source (drop l.line-index l.lines))) ≡
          sprite_rows (lines_at l.source l.lines);
    }
