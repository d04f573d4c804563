use Rattle.std.proofs.Common.{◌≡◌, ◌++◌, drop}
use Rattle.std.specs.List.{flat_map}
use Rattle.ps_rules.specs.RulesShown.{lines_shown}
use Rattle.ps_program.specs.ProgramShown.{sections_shown}
use Rattle.ps_compile.specs.PiecesShown.{pieces_shown}
use Rattle.ps_compile.specs.ProgramsMade.{compact_outside, compact_behind}
use Rattle.ps_compile.proofs.program.push_behind.Given as goal

abbrev pub invariant-loop-piece : goal.invariant-loop-piece
invariant-loop-piece l =
    sections_shown l.sections.items ++ flat_map (compact_outside l.names l.part)
    (pieces_shown (drop l.piece-index l.others))
    ≡ sections_shown l.fn.sections.items ++ compact_behind l.names l.part (lines_shown l.lines)
