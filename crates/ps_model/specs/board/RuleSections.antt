-- Sections of programs, whatever stands for a rule in them: groups of rules, and loops over groups.
use Rattle.std.specs.Prelude.{List, map}

-- a section: a group of rules, or a loop over groups
pub data SectionOf (A : Type 0) : Type 0 where
  Group : List A → SectionOf A
  Loop : List (List A) → SectionOf A

-- a section with each of its groups made into another one
abbrev pub section_by : {A B : Type 0} → (List A → List B) → SectionOf A → SectionOf B
section_by made (Group rules) = Group (made rules)
section_by made (Loop body) = Loop (map made body)
