use Rattle.std.proofs.Common.{◌≡◌, drop, map}
use Rattle.std.specs.List.{list_any}
use Rattle.ps_text.specs.WordViews.{text_of}
use Rattle.ps_warnings.specs.Sounds.{is_sound}
use Rattle.ps_warnings.proofs.sounds.has_sound.Given as goal

-- the words passed by ask for none
abbrev pub invariant-loop-word : goal.invariant-loop-word
invariant-loop-word l = list_any is_sound (map text_of (drop l.word-index l.words)) ≡ list_any is_sound
    (map text_of l.words)
