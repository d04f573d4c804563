use Rattle.std.proofs.Common.{◌≡◌, drop, map}
use Rattle.ps_names.specs.GlyphsShown.{glyph_shown}
use Rattle.ps_screen.specs.Glyphs.{character_for}
use Rattle.ps_screen.proofs.look.first_glyph.Given as goal

-- no glyph passed by fits
abbrev pub invariant-loop-glyph : goal.invariant-loop-glyph
invariant-loop-glyph l =
    character_for (map (λ glyph. glyph_shown glyph.now) l.glyphs) l.objects
    ≡ character_for (map (λ glyph. glyph_shown glyph.now) (drop l.glyph-index l.glyphs)) l.objects
