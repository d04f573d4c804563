use Rattle.std.proofs.Common.{◌≡◌, length}
use Rattle.ps_engine.specs.Waking.{AreUnknown}
use Rattle.ps_engine.proofs.quiet_groups.unknown_sections.Given as goal

-- what the sections passed by ask about
abbrev pub invariant-loop-section : goal.invariant-loop-section
invariant-loop-section l =
    record {
      long : length l.known.items ≡ l.section-index;
      unknown : AreUnknown l.sections l.known.items;
    }
