use Rattle.std.proofs.Common.{◌≡◌, drop, map}
use Rattle.std.specs.List.{list_any}
use Rattle.ps_text.specs.WordViews.{text_of}
use Rattle.ps_warnings.specs.WordWarnings.{is_late}
use Rattle.ps_warnings.proofs.word_lines.has_late.Given as goal

-- the words passed by aren't
abbrev pub invariant-loop-word : goal.invariant-loop-word
invariant-loop-word l = list_any is_late (map text_of (drop l.word-index l.words)) ≡ list_any is_late
    (map text_of l.words)
