use Rattle.std.proofs.Common.{List, None, subst, sym}
use Rattle.ps_engine.specs.QuietGroups.{AreKnown}
use Rattle.ps_engine.specs.declared.quiet_groups.KnownSection.{KnownSection}
use Rattle.ps_engine.proofs.Waking.{known_nothing}
use Rattle.ps_engine.proofs.quiet_groups.QuietGroups.new.Goals as goal

pub invariant_of-result : goal.invariant_of-result
invariant_of-result g c = (
  tt,
  subst (λ (known : List KnownSection). AreKnown None c.args.sections.now known) (sym c.new.ensures.items)
      (known_nothing None c.args.sections.now),
)
