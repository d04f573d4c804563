use Rattle.std.proofs.Common.{◌≡◌, ◌++◌, drop}
use Rattle.std.specs.List.{filter_map}
use Rattle.ps_names.specs.GlyphsShown.{glyphs_shown}
use Rattle.ps_names.specs.Tables.{glyph_named}
use Rattle.ps_names.proofs.table.Table.glyphs.Given as goal

abbrev pub invariant-loop-place : goal.invariant-loop-place
invariant-loop-place l = glyphs_shown l.made.items ++ filter_map glyph_named (drop l.place l.self) ≡ filter_map
    glyph_named l.self
