use Rattle.std.proofs.Common.{◌≡◌, map}
use Rattle.std.specs.List.{range_with_len}
use Rattle.ps_model.specs.session.LevelFaults.{character_meaning}
use Rattle.ps_levels.specs.Cells.{meanings_shown}
use Rattle.ps_levels.proofs.glyph_names.ascii_meanings.Given as goal

-- the characters passed by
abbrev pub invariant-loop-code : goal.invariant-loop-code
invariant-loop-code l = meanings_shown l.found.items ≡ map (character_meaning l.names) (range_with_len 0 l.code)
