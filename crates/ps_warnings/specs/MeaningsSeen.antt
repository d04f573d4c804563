-- Meanings of the code that are looked at, as those of the definitions.
use Rattle.std.specs.Prelude.{List, map}
use Rattle.std.specs.Borrow.{Bor}
use Rattle.ps_model.specs.names.Names as model
use Rattle.ps_names.specs.declared.meaning.Meaning.{Meaning}
use Rattle.ps_names.specs.Shown.{meaning_shown}

abbrev pub meanings_seen : List (Bor Meaning) → List model.Meaning
meanings_seen meanings = map (λ meaning. meaning_shown meaning.now) meanings
