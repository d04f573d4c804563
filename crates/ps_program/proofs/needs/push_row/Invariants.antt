use Rattle.std.proofs.Common.{◌≡◌, ◌++◌, drop}
use Rattle.std.specs.List.{flat_map}
use Rattle.ps_program.specs.Needs.{asked_by_part, asked_by_row, cell_moves, cell_needs}
use Rattle.ps_program.proofs.needs.push_row.Given as goal

abbrev pub invariant-loop-part : goal.invariant-loop-part
invariant-loop-part l =
    record {
      objects : l.objects.items ++ flat_map (asked_by_part cell_needs) (drop l.part-index l.row.parts) ≡
          l.initial.objects.items ++ asked_by_row cell_needs l.row;
      motions : l.motions.items ++ flat_map (asked_by_part cell_moves) (drop l.part-index l.row.parts) ≡
          l.initial.motions.items ++ asked_by_row cell_moves l.row;
    }
