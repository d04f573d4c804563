use Rattle.std.proofs.Common.{take}
use Rattle.ps_names.specs.GlyphsShown.{glyphs_shown}
use Rattle.ps_screen.specs.Glyphs.{AreMixed}
use Rattle.ps_screen.proofs.mixing.mixed_objects.Given as goal

-- the objects of the glyphs passed by are noted
abbrev pub invariant-loop-glyph : goal.invariant-loop-glyph
invariant-loop-glyph l = AreMixed (glyphs_shown (take l.glyph-index l.glyph-items)) l.mixes.items
