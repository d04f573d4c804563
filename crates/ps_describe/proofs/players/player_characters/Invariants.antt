use Rattle.std.proofs.Common.{◌≡◌, ◌++◌, drop, filter, map}
use Rattle.ps_names.specs.GlyphsShown.{glyphs_shown}
use Rattle.ps_describe.specs.Descriptions.{shows_player}
use Rattle.ps_describe.proofs.players.player_characters.Given as goal

-- what is left comes to the whole
abbrev pub invariant-loop-glyph : goal.invariant-loop-glyph
invariant-loop-glyph l = l.characters.items
    ++ map (λ glyph. glyph.character) (filter (shows_player l.names) (glyphs_shown (drop l.glyph-index l.glyph-items)))
    ≡ map (λ glyph. glyph.character) (filter (shows_player l.names) (glyphs_shown l.glyph-items))
