use Rattle.std.proofs.Common.{◌≡◌, ◌++◌, drop, map}
use Rattle.std.specs.List.{flat_map}
use Rattle.ps_text.specs.WordViews.{text_of}
use Rattle.ps_warnings.specs.NameWarnings.{line_named}
use Rattle.ps_warnings.proofs.named_lines.lines_of_words.Given as goal

-- what is left comes to the whole
abbrev pub invariant-loop-word : goal.invariant-loop-word
invariant-loop-word l =
    l.lines.items ++ flat_map (line_named l.names) (map text_of (drop l.word-index l.words))
    ≡ flat_map (line_named l.names) (map text_of l.words)
