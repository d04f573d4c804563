use Rattle.std.proofs.Common.{◌≡◌, ◌+◌, ◌≤◌, drop, map}
use Rattle.ps_text.specs.WordViews.{text_of}
use Rattle.ps_facts.specs.Counts.{cells_from}
use Rattle.ps_facts.proofs.cells.cells_of.Given as goal

-- the words passed by are counted, and the others lie ahead
abbrev pub invariant-loop-word : goal.invariant-loop-word
invariant-loop-word l =
    record {
      told : cells_from l.count (map text_of (drop l.word-index l.words)) ≡ cells_from 1 (map text_of l.words);
      few : l.count ≤ l.word-index + 1;
    }
