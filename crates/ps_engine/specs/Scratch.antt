-- How many rows of a rule there is room for.
use Rattle.std.specs.Prelude.{◌≡◌, ℕ, ◌≤◌, All, List, length}
use Rattle.ps_program.specs.declared.rules.CompiledRule.{CompiledRule}
use Rattle.ps_program.specs.declared.program.CompiledSection.{CompiledSection}
use Rattle.ps_program.specs.declared.program.CompiledSection.TheVariants.{Group, Loop}

-- so many scratch are enough for the rows of each rule
abbrev pub HaveScratch : ℕ → List CompiledRule → Type 0
HaveScratch count rules = All (λ rule. length rule.rows ≤ count) rules

abbrev pub GroupsHaveScratch : ℕ → List (List CompiledRule) → Type 0
GroupsHaveScratch count groups = All (HaveScratch count) groups

pub record SectionHasScratch (count : ℕ) (section : CompiledSection) : Type 0 where
  pub group : (rules : List CompiledRule) → section ≡ Group rules → HaveScratch count rules
  pub groups : (body : List (List CompiledRule)) → section ≡ Loop body → GroupsHaveScratch count body

abbrev pub SectionsHaveScratch : ℕ → List CompiledSection → Type 0
SectionsHaveScratch count sections = All (SectionHasScratch count) sections
