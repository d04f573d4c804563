use Rattle.std.proofs.Common.{◌≡◌, ◌++◌, ◌+◌, drop}
use Rattle.std.specs.Prelude.{string_bytes}
use Rattle.ps_records.specs.ReplayWords.{level_lines}
use Rattle.ps_records.proofs.lines.level_lines.Given as goal

-- the lines on the levels passed by, and those on the others, are all lines
abbrev pub invariant-loop-before : goal.invariant-loop-before
invariant-loop-before l = string_bytes l.lines ++ level_lines l.front (l.before + 1) (drop l.before l.won)
    ≡ level_lines l.front 1 l.won
