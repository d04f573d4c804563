use Rattle.std.proofs.Common.{◌≡◌, map, take}
use Rattle.ps_names.specs.GlyphsShown.{glyph_shown}
use Rattle.ps_screen.specs.Glyphs.{with_greatest}
use Rattle.ps_screen.proofs.greatest.with_greatest.Given as goal

-- those of the glyphs passed by
abbrev pub invariant-loop-index : goal.invariant-loop-index
invariant-loop-index l =
    map (λ glyph. glyph_shown glyph.now) l.found.items
    ≡ with_greatest (map (λ glyph. glyph_shown glyph.now) (take l.index l.glyphs)) l.number
