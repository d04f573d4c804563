use Rattle.std.proofs.Common.{◌≡◌, ◌+◌, drop, None}
use Rattle.std.specs.List.{prefix_len}
use Rattle.std.specs.Str.{IsCharBoundary}
use Rattle.ps_model.specs.text.Words.{parts_words, words_from}
use Rattle.ps_text.proofs.scan.past_parting.Given as goal

abbrev pub invariant-loop-at : goal.invariant-loop-at
invariant-loop-at l =
    record {
      place : l.at + prefix_len (parts_words l.cut) (drop l.at l.line) ≡ l.fn.from + prefix_len (parts_words l.cut)
          (drop l.fn.from l.line);
      words : words_from l.cut l.fn.from None (drop l.fn.from l.line) ≡ words_from l.cut l.at None (drop l.at l.line);
      cuttable : IsCharBoundary l.line l.at;
    }
