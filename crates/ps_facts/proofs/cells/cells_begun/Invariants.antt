use Rattle.std.proofs.Common.{◌≡◌, ◌≤◌, drop, map}
use Rattle.std.specs.Prelude.{fold}
use Rattle.ps_text.specs.WordViews.{text_of}
use Rattle.ps_facts.specs.Counts.{begun_behind, cells_begun}
use Rattle.ps_facts.proofs.cells.cells_begun.Given as goal

-- the words passed by are counted, and the others lie ahead
abbrev pub invariant-loop-word : goal.invariant-loop-word
invariant-loop-word l =
    record {
      told : fold begun_behind l.count (map text_of (drop l.word-index l.words)) ≡ cells_begun (map text_of l.words);
      few : l.count ≤ l.word-index;
    }
