use Rattle.std.proofs.Common.{refl, rules, false}
use Rattle.ps_engine.specs.declared.quiet_groups.KnownSection.{KnownSection}
use Rattle.ps_engine.proofs.Waking.{unknown_more}
use Rattle.ps_engine.proofs.quiet_groups.unknown_sections.Goals as goal

pub loop-section-preserved : goal.loop-section-preserved
loop-section-preserved c =
    let known_section : KnownSection = record { topics = c.topics_of_section.result; quiet = false } in
    record {
      long = search rules;
      unknown = unknown_more c.args.sections.now c.loop-section.known.items c.loop-section.section-index
          c.section-item.result known_section c.push.new.self.items c.in_ok-push.ensures.items c.loop-section.invariant.long
          c.loop-section-test.true c.section-item.is
          (record { asks = c.topics_of_section.ensures; loud = refl }) c.loop-section.invariant.unknown;
    }
