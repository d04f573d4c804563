use Rattle.std.proofs.Common.{◌≡◌, drop}
use Rattle.std.specs.List.{list_any}
use Rattle.ps_model.specs.names.Meanings.{is_property}
use Rattle.ps_levels.specs.Cells.{meanings_shown}
use Rattle.ps_levels.proofs.glyphs.has_property.Given as goal

abbrev pub invariant-loop-meaning : goal.invariant-loop-meaning
invariant-loop-meaning l = list_any is_property (meanings_shown (drop l.meaning-index l.meanings)) ≡ list_any
    is_property (meanings_shown l.meanings)
