-- What is known of a program's groups: those that have no combination on a grid that is kept.
use Rattle.std.specs.Prelude.{◌≡◌, ℕ, true, Option, Some, List, [], All, IfSome, length, slice_get}
use Rattle.ps_model.specs.board.Grid.{Grid}
use Rattle.ps_model.specs.board.Attempts.{combinations_on}
use Rattle.ps_program.specs.declared.rules.CompiledRule.{CompiledRule}
use Rattle.ps_program.specs.declared.program.CompiledSection.{CompiledSection}
use Rattle.ps_program.specs.declared.program.CompiledSection.TheVariants.{Group}
use Rattle.ps_engine.specs.RulesInRoom.{rule_meaning}
use Rattle.ps_engine.specs.TopicsAsked.{HasGroup}
use Rattle.ps_engine.specs.declared.quiet_groups.KnownSection.{KnownSection}

-- a program, and the grid that is kept, if one is, of a board with such a table
pub record QuietGroupsShown : Type 0 where
  pub sections : List CompiledSection
  pub kept : Option (Grid × Option (List ℕ))

-- no rule has a combination on a grid
abbrev pub AreIdleOn : Grid → Option (List ℕ) → List CompiledRule → Type 0
AreIdleOn g table rules = All (λ rule. combinations_on g (rule_meaning table rule) ≡ []) rules

-- a section is a group, and none of its rules has
pub record IsIdleOn (g : Grid) (table : Option (List ℕ)) (section : CompiledSection) : Type 0 where
  pub rules : List CompiledRule
  pub group : section ≡ Group rules
  pub idle : AreIdleOn g table rules

-- what is told of a section is so: it asks about no other topics, and where it is quiet, it is idle on what is kept
pub record IsKnown (kept : Option (Grid × Option (List ℕ))) (section : CompiledSection) (known_section : KnownSection) :
    Type 0 where
  pub asks : HasGroup known_section.topics section
  pub idle : (g : Grid) (table : Option (List ℕ)) → kept ≡ Some (g, table) → known_section.quiet ≡ true →
      IsIdleOn g table section

-- of each section
abbrev pub AreKnown : Option (Grid × Option (List ℕ)) → List CompiledSection → List KnownSection → Type 0
AreKnown kept sections known = (n : ℕ) (section : CompiledSection) (known_section : KnownSection) →
    slice_get sections n ≡ Some section → slice_get known n ≡ Some known_section → IsKnown kept section known_section

-- where a board is kept, something is known of each section
abbrev pub IsKnownOfEach : {B : Type 0} → Option B → List CompiledSection → List KnownSection → Type 0
IsKnownOfEach board sections known = IfSome board (λ _. length known ≡ length sections)
