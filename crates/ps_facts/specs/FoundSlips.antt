-- A word of a list that has a slip.
use Rattle.std.specs.Prelude.{◌≡◌, ◌<◌, ◌+◌, ℕ, true, List, length, map, take, drop, get_or}
use Rattle.ps_text.specs.WordViews.{text_of}
use Rattle.ps_text.specs.declared.cutting.Word.{Word}
use Rattle.ps_facts.specs.declared.slips.Slip.{Slip}
use Rattle.ps_facts.specs.Slips.{has_slip}

-- the word is one of the list, and has the slip there
pub record IsFoundIn (words : List Word) (slip : Slip) (word : Word) : Type 0 where
  pub at : ℕ
  pub within : at < length words
  pub here : word ≡ get_or words at word
  pub holds : has_slip slip (map text_of (take at words)) word.text.now (map text_of (drop (at + 1) words)) ≡ true
