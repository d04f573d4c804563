use Rattle.std.proofs.Common.{◌≡◌, ◌++◌, drop, map}
use Rattle.ps_text.specs.WordViews.{text_of}
use Rattle.ps_facts.specs.Counts.{cell_counts}
use Rattle.ps_facts.proofs.cells.cell_counts.Given as goal

-- the rows passed by are counted, and the others lie ahead
abbrev pub invariant-loop-at : goal.invariant-loop-at
invariant-loop-at l = l.counts.items ++ cell_counts (map text_of (drop l.at l.words)) ≡ cell_counts
    (map text_of l.words)
