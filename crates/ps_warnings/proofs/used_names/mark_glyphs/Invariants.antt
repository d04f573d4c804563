use Rattle.std.proofs.Common.{◌≡◌, drop}
use Rattle.ps_names.specs.GlyphsShown.{glyphs_shown}
use Rattle.ps_warnings.specs.Marks.{marked}
use Rattle.ps_warnings.specs.NameWarnings.{lines_of_glyphs}
use Rattle.ps_warnings.proofs.used_names.mark_glyphs.Given as goal

-- what is left comes to the whole
abbrev pub invariant-loop-glyph : goal.invariant-loop-glyph
invariant-loop-glyph l =
    marked l.used (lines_of_glyphs (glyphs_shown (drop l.glyph-index l.glyphs)))
    ≡ marked l.initial.used (lines_of_glyphs (glyphs_shown l.glyphs))
