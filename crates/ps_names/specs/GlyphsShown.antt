-- The glyphs of the code as the glyphs of the definitions.
use Rattle.std.specs.Prelude.{List, map}
use Rattle.ps_model.specs.names.Names as model
use Rattle.ps_names.specs.declared.glyphs.Glyph.{Glyph}
use Rattle.ps_names.specs.Shown.{meaning_shown}

abbrev pub glyph_shown : Glyph → model.Glyph
glyph_shown glyph = record { character = glyph.character; meaning = meaning_shown glyph.meaning }

abbrev pub glyphs_shown : List Glyph → List model.Glyph
glyphs_shown glyphs = map glyph_shown glyphs
