-- Lines that are a part of a rule.
use Rattle.std.specs.Prelude.{ℕ, Bool, not, List, [], slice_index_or}
use Rattle.ps_causes.specs.declared.causes.Part.{Part}
use Rattle.ps_causes.specs.declared.causes.Part.TheVariants.{FromArrow, WithoutArrow}
use Rattle.ps_facts.specs.declared.signs.Sign.TheVariants.{Arrow}
use Rattle.ps_facts.specs.Signs.{is_sign, has_sign}

-- a line of these words begins with the arrow, or has none
abbrev pub is_part : Part → List (List ℕ) → Bool
is_part FromArrow words = is_sign Arrow (slice_index_or words 0 [])
is_part WithoutArrow words = not (has_sign Arrow words)
