use Rattle.std.proofs.Common.{◌≡◌, drop, map}
use Rattle.std.specs.Prelude.{find}
use Rattle.ps_text.specs.WordViews.{text_of}
use Rattle.ps_warnings.specs.LayerWarnings.{is_elsewhere, objects_of_words}
use Rattle.ps_warnings.proofs.layers.first_by_words.Given as goal

-- the objects of the words passed by are on the layer
abbrev pub invariant-loop-word : goal.invariant-loop-word
invariant-loop-word l =
    find (is_elsewhere l.names l.layer) (objects_of_words l.names (map text_of (drop l.word-index l.words)))
    ≡ find (is_elsewhere l.names l.layer) (objects_of_words l.names (map text_of l.words))
