use Rattle.std.proofs.Common.{◌≡◌, drop, map}
use Rattle.ps_text.specs.WordViews.{text_of}
use Rattle.ps_warnings.specs.WordWarnings.{are_late_twice}
use Rattle.ps_warnings.proofs.word_lines.are_late_twice.Given as goal

-- the words passed by aren't
abbrev pub invariant-loop-at : goal.invariant-loop-at
invariant-loop-at l = are_late_twice (map text_of (drop l.at l.words)) ≡ are_late_twice (map text_of l.words)
