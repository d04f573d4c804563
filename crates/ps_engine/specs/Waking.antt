-- What is known of sections that have been woken where they ask about a set of topics.
use Rattle.std.specs.Prelude.{◌≡◌, ℕ, Bool, true, false, Option, Some, List, [], slice_get}
use Rattle.ps_model.specs.board.Grid.{Grid, IsGrid}
use Rattle.ps_match.specs.InRoom.{sides_of}
use Rattle.ps_match.specs.Topics.{DifferOnlyAbout}
use Rattle.ps_board.specs.ColumnSets.{both_columns, set_columns}
use Rattle.ps_program.specs.declared.program.CompiledSection.{CompiledSection}
use Rattle.ps_engine.specs.TopicsAsked.{HasGroup}
use Rattle.ps_engine.specs.declared.quiet_groups.KnownSection.{KnownSection}

-- it asks about the same, and is quiet only if it was before and asks about nothing in the set
pub record IsWoken (stirred : List Bool) (before after : KnownSection) : Type 0 where
  pub topics : after.topics ≡ before.topics
  pub quiet : after.quiet ≡ true → before.quiet ≡ true
  pub apart : after.quiet ≡ true → set_columns (both_columns before.topics stirred) ≡ []

-- each of a list
abbrev pub AreWoken : List Bool → List KnownSection → List KnownSection → Type 0
AreWoken stirred before after = (n : ℕ) (known_section : KnownSection) → slice_get after n ≡ Some known_section →
    (was : KnownSection) × (slice_get before n ≡ Some was) × IsWoken stirred was known_section

-- nothing is known of sections but what they ask about
pub record IsUnknown (section : CompiledSection) (known_section : KnownSection) : Type 0 where
  pub asks : HasGroup known_section.topics section
  pub loud : known_section.quiet ≡ false

abbrev pub AreUnknown : List CompiledSection → List KnownSection → Type 0
AreUnknown sections known = (n : ℕ) (section : CompiledSection) (known_section : KnownSection) →
    slice_get sections n ≡ Some section → slice_get known n ≡ Some known_section → IsUnknown section known_section

-- a grid differs from another one of its sides in nothing but what a set of topics has, and both are on one table
pub record IsSameBut (stirred : List Bool) (g : Grid) (table : Option (List ℕ)) (kept : Grid)
    (kept_table : Option (List ℕ)) : Type 0 where
  pub differ : DifferOnlyAbout stirred g kept
  pub sides : sides_of kept ≡ sides_of g
  pub shape : IsGrid kept
  pub same_table : kept_table ≡ table
