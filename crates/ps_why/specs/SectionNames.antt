-- The words of the sections' headers.
use Rattle.std.specs.Prelude.{ℕ, List, codes}
use Rattle.ps_model.specs.declared.texts.Section.{Section}
use Rattle.ps_model.specs.declared.texts.Section.TheVariants.{Prelude, Objects, Legend, Sounds, Layers, Rules, Wins}
use Rattle.ps_model.specs.declared.texts.Section.TheVariants.{Levels}

-- the word of a section's header
abbrev pub section_name : Section → List ℕ
section_name Prelude = codes "the prelude"
section_name Objects = codes "OBJECTS"
section_name Legend = codes "LEGEND"
section_name Sounds = codes "SOUNDS"
section_name Layers = codes "COLLISIONLAYERS"
section_name Rules = codes "RULES"
section_name Wins = codes "WINCONDITIONS"
section_name Levels = codes "LEVELS"
