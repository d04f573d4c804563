use Rattle.std.proofs.Common.{◌≡◌, drop}
use Rattle.std.specs.List.{list_any}
use Rattle.ps_names.specs.GlyphsShown.{glyphs_shown}
use Rattle.ps_describe.specs.Descriptions.{shows_alone}
use Rattle.ps_describe.proofs.without_glyph.lacks_glyph.Given as goal

-- the glyphs passed by don't show it alone
abbrev pub invariant-loop-glyph : goal.invariant-loop-glyph
invariant-loop-glyph l = list_any (shows_alone l.object) (glyphs_shown (drop l.glyph-index l.glyph-items))
    ≡ list_any (shows_alone l.object) (glyphs_shown l.glyph-items)
