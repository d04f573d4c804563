use Rattle.std.proofs.Common.{◌≡◌, ◌++◌, drop, map, option_map}
use Rattle.ps_text.specs.WordViews.{text_of}
use Rattle.ps_names.specs.LayersShown.{named_by}
use Rattle.ps_names.specs.Shown.{meaning_shown}
use Rattle.ps_names.proofs.layers.named_by.Given as goal

abbrev pub invariant-loop-word : goal.invariant-loop-word
invariant-loop-word l =
    map (λ m. option_map (λ m. meaning_shown m.now) m) l.named.items ++ named_by l.table
    (map text_of (drop l.word-index l.words)) ≡ named_by l.table (map text_of l.words)
