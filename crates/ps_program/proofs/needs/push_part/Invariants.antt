use Rattle.std.proofs.Common.{◌≡◌, ◌++◌, drop}
use Rattle.ps_program.specs.Needs.{asked_by_part, cell_moves, cell_needs}
use Rattle.ps_program.proofs.needs.push_part.Given as goal

abbrev pub invariant-loop-cell : goal.invariant-loop-cell
invariant-loop-cell l =
    record {
      objects : l.objects.items ++ asked_by_part cell_needs (drop l.cell-index l.part) ≡ l.initial.objects.items ++
          asked_by_part cell_needs l.part;
      motions : l.motions.items ++ asked_by_part cell_moves (drop l.cell-index l.part) ≡ l.initial.motions.items ++
          asked_by_part cell_moves l.part;
    }
