use Rattle.std.proofs.Common.{◌≡◌, length, map}
use Rattle.ps_names.specs.GlyphsShown.{glyph_shown}
use Rattle.ps_screen.specs.Glyphs.{AreByGreatest}
use Rattle.ps_screen.proofs.greatest.by_greatest.Given as goal

-- the lists of the numbers passed by
abbrev pub invariant-loop-number : goal.invariant-loop-number
invariant-loop-number l =
    record {
      long : length l.lists.items ≡ l.number;
      lists : AreByGreatest (map (λ glyph. glyph_shown glyph.now) l.glyphs)
          (map (λ list. map (λ glyph. glyph_shown glyph.now) list.items) l.lists.items);
    }
