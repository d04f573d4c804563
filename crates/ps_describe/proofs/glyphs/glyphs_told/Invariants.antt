use Rattle.std.proofs.Common.{◌≡◌, ◌++◌, drop, map}
use Rattle.ps_facts.specs.NamesShown.{names_shown}
use Rattle.ps_names.specs.GlyphsShown.{glyphs_shown}
use Rattle.serde_json.specs.View.{view}
use Rattle.ps_describe.specs.Descriptions.{glyph_told}
use Rattle.ps_describe.proofs.glyphs.glyphs_told.Given as goal

-- what is left comes to the whole
abbrev pub invariant-loop-glyph : goal.invariant-loop-glyph
invariant-loop-glyph l = map view l.told.items ++ map (glyph_told l.names (names_shown l.declared)) (glyphs_shown (drop l.glyph-index l.glyph-items))
    ≡ map (glyph_told l.names (names_shown l.declared)) (glyphs_shown l.glyph-items)
