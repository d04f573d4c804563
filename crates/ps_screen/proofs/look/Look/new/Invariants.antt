use Rattle.std.proofs.Common.{◌≡◌, length, map, take}
use Rattle.ps_names.specs.GlyphsShown.{glyph_shown, glyphs_shown}
use Rattle.ps_screen.specs.Glyphs.{AreLookedUp}
use Rattle.ps_screen.proofs.look.Look.new.Given as goal

-- the glyphs passed by are looked up, and there is room for the character of each object
abbrev pub invariant-loop-glyph : goal.invariant-loop-glyph
invariant-loop-glyph l =
    record {
      looked : AreLookedUp (glyphs_shown (take l.glyph-index l.glyph-items)) l.single.items
          (map (λ glyph. glyph_shown glyph.now) l.mixed.items);
      long : length l.single.items ≡ l.count;
    }
