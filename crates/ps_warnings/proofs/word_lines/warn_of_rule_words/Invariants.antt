use Rattle.std.proofs.Common.{◌≡◌, ◌++◌}
use Rattle.std.specs.List.{flat_map}
use Rattle.ps_model.specs.text.LineNumbers.{lines_between}
use Rattle.ps_warnings.specs.WordWarnings.{warnings_of_words}
use Rattle.ps_warnings.proofs.word_lines.warn_of_rule_words.Given as goal

-- what is left comes to the whole
abbrev pub invariant-loop-line : goal.invariant-loop-line
invariant-loop-line l = l.told.items ++ flat_map warnings_of_words (lines_between l.source l.line l.fn.lines.end)
    ≡ l.initial.told.items ++ flat_map warnings_of_words (lines_between l.source l.fn.lines.start l.fn.lines.end)
