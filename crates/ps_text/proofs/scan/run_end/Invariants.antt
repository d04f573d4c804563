use Rattle.std.proofs.Common.{◌≡◌, drop, None, Some}
use Rattle.ps_model.specs.text.Words.{words_from}
use Rattle.ps_text.specs.WordRanges.{IsSolid}
use Rattle.ps_text.proofs.scan.run_end.Given as goal

abbrev pub invariant-loop-at : goal.invariant-loop-at
invariant-loop-at l =
    record {
      words : words_from l.cut l.fn.start None (drop l.fn.start l.line) ≡ words_from l.cut l.at (Some l.fn.start)
          (drop l.at l.line);
      solid : IsSolid l.line l.fn.start l.at;
    }
