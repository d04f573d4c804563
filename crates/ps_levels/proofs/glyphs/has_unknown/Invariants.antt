use Rattle.std.proofs.Common.{◌≡◌, drop}
use Rattle.std.specs.List.{list_any}
use Rattle.ps_levels.specs.Cells.{meanings_shown, is_unknown}
use Rattle.ps_levels.proofs.glyphs.has_unknown.Given as goal

abbrev pub invariant-loop-meaning : goal.invariant-loop-meaning
invariant-loop-meaning l = list_any is_unknown (meanings_shown (drop l.meaning-index l.meanings)) ≡ list_any is_unknown
    (meanings_shown l.meanings)
