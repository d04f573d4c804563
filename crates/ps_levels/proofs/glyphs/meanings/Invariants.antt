use Rattle.std.proofs.Common.{◌≡◌, ◌++◌, map, drop}
use Rattle.ps_model.specs.session.LevelFaults.{character_meaning}
use Rattle.ps_levels.specs.Cells.{meanings_shown}
use Rattle.ps_levels.proofs.glyphs.meanings.Given as goal

abbrev pub invariant-loop-character : goal.invariant-loop-character
invariant-loop-character l = meanings_shown l.found.items ++ map (character_meaning l.names)
    (drop l.character-index l.characters) ≡ map (character_meaning l.names) l.characters
