use Rattle.std.proofs.Common.{◌≡◌, ℕ, ◌<◌, ◌≤◌, Some}
use Rattle.std.specs.Prelude.{slice_get}
use Rattle.ps_engine.specs.declared.quiet_groups.KnownSection.{KnownSection}
use Rattle.ps_engine.specs.Waking.{IsWoken}
use Rattle.ps_engine.proofs.quiet_groups.wake.Given as goal

-- those below the number are woken, and the others are as they were
abbrev pub invariant-loop-number : goal.invariant-loop-number
invariant-loop-number l =
    record {
      woken : (n : ℕ) (known_section : KnownSection) → n < l.number → slice_get l.known.items n ≡ Some known_section →
          (was : KnownSection) × (slice_get l.fn.known.items n ≡ Some was) × IsWoken l.stirred was known_section;
      left : (n : ℕ) → l.number ≤ n → slice_get l.known.items n ≡ slice_get l.fn.known.items n;
    }
