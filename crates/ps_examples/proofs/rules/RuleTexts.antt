-- Names and lines for the worked rows on rules: the names of the base text, written out, and the lines below a header
-- RULES, the first of which has the number 2.
use Rattle.std.proofs.Common.{◌≡◌, ℕ, List, [], ◌∷◌, ◌++◌, map, refl, Option, Some}
use Rattle.std.specs.Prelude.{codes}
use Rattle.std.specs.Str.{chars}
use Rattle.ps_model.specs.declared.pieces.LayerId.{LayerId}
use Rattle.ps_model.specs.declared.pieces.ObjectId.{ObjectId}
use Rattle.ps_model.specs.declared.compiled.LayeredObject.{LayeredObject}
use Rattle.ps_model.specs.declared.faults.Fault.{Fault}
use Rattle.ps_model.specs.declared.faults.FaultKind.{FaultKind}
use Rattle.ps_model.specs.names.Names.{Meaning, One, AllOf, AnyOf, Names}
use Rattle.ps_model.specs.declared.texts.Section.TheVariants.{Rules}
use Rattle.ps_model.specs.text.Lines.{Line, lines_of}
use Rattle.ps_model.specs.text.Sections.{section_lines}
use Rattle.ps_model.specs.text.Faults.{first_fault}
use Rattle.ps_model.specs.rules.RuleFaults.{rule_faults}
use Rattle.ps_examples.proofs.games.BaseText.{base_head}
use Rattle.ps_examples.proofs.names.NameTexts.{names_of_text}

abbrev pub object : ℕ → ObjectId
object number = record { 0 = number }

-- a layer
abbrev pub layer_id : ℕ → LayerId
layer_id number = record { 0 = number }

-- an object, and its layer
abbrev pub placed : ℕ → ℕ → LayeredObject
placed number layer = record { object = object number; layer = layer_id layer }

-- what a name stands for that is one object
abbrev pub one : ℕ → Meaning
one number = One (object number)

-- the property of A and Target, which lie on two layers
abbrev pub at : Meaning
at = AnyOf 23 (object 5 ∷ object 4 ∷ [])

-- the property of A and C, which lie on one layer; the base text doesn't have it
abbrev pub ac : Meaning
ac = AnyOf 91 (object 5 ∷ object 7 ∷ [])

-- the aggregate of Crate and Target
abbrev pub crate_on_target : Meaning
crate_on_target = AllOf 22 (object 3 ∷ object 4 ∷ [])

-- the names of the base text, but for the glyphs
abbrev pub base_names : Names
base_names = record {
  entries =
      (codes "background", one 0) ∷ (codes ".", one 0) ∷ (codes "wall", one 1) ∷ (codes "#", one 1) ∷
      (codes "player", one 2) ∷ (codes "p", one 2)
      ∷ (codes "crate", one 3) ∷ (codes "*", one 3) ∷ (codes "target", one 4) ∷ (codes "o", one 4) ∷ (codes "a", one 5)
      ∷ (codes "b", one 6)
      ∷ (codes "c", one 7) ∷ (codes "d", one 8) ∷ (codes "@", crate_on_target) ∷ (codes "at", at) ∷ [];
  layers = 0 ∷ 2 ∷ 2 ∷ 2 ∷ 1 ∷ 3 ∷ 3 ∷ 3 ∷ 3 ∷ [];
  layer_count = 4;
  glyphs = [];
}

-- they are what the base text says
base_entries : (names_of_text base_head).entries ≡ base_names.entries
unfolding chars
base_entries = refl

base_layers : (names_of_text base_head).layers ≡ base_names.layers
unfolding chars
base_layers = refl

-- those names with one more
abbrev pub with_name : List ℕ → Meaning → Names
with_name name meaning = record base_names { entries = base_names.entries ++ (name, meaning) ∷ [] }

-- the lines below RULES
abbrev pub lines_below : List ℕ → List Line
lines_below rules = section_lines (lines_of (codes "RULES\n" ++ rules)) Rules

-- the fault that lines below RULES have
abbrev pub told_with : Names → List ℕ → Option Fault
told_with names rules = first_fault (rule_faults names (lines_below rules))

abbrev pub told : List ℕ → Option Fault
told rules = told_with base_names rules

-- a fault at a line
abbrev pub fault_at : ℕ → FaultKind → Option Fault
fault_at line kind = Some (record { kind = kind; line = line })

-- all these texts have the same answer
abbrev pub AllTold : Option Fault → List (List ℕ) → Type 0
AllTold fault texts = map told texts ≡ map (λ text. fault) texts
