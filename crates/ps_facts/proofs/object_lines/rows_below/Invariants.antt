use Rattle.std.proofs.Common.{◌≡◌, ◌+◌, ◌-◌, take}
use Rattle.std.specs.List.{prefix_len}
use Rattle.ps_model.specs.declared.texts.Section.TheVariants.{Objects}
use Rattle.ps_model.specs.names.ObjectLines.{is_sprite_row, sprite_rows}
use Rattle.ps_model.specs.text.LineNumbers.{HasLine}
use Rattle.ps_facts.specs.NamesShown.{own_lines_from}
use Rattle.ps_facts.proofs.object_lines.rows_below.Given as goal

-- the rows passed by are counted, and the other lines lie below the last of them
abbrev pub invariant-loop-count : goal.invariant-loop-count
invariant-loop-count l =
    record {
      told : l.count + prefix_len is_sprite_row (take (5 - l.count) (own_lines_from l.source Objects (l.last + 1))) ≡
          sprite_rows (own_lines_from l.source Objects (l.line + 1));
      there : HasLine l.source l.last;
    }
