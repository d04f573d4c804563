use Rattle.std.proofs.Common.{◌∙◌, ℕ, List, ap, map, sym, subst}
use Rattle.ps_rows.specs.Members.{AreRangesOf, short_range}
use Rattle.ps_rows.proofs.MemberRanges.{no_ranges}
use Rattle.ps_rows.proofs.Passed.{same_order}
use Rattle.ps_rows.proofs.members.Members.try_new.Goals as goal

pub loop-layer-init : goal.loop-layer-init
loop-layer-init c =
    record {
      long = c.in_ok-ranges.ensures.len;
      each = no_ranges c.in_ok-table.table.items c.in_ok-numbers.numbers.items c.in_ok-ranges.ranges.items
          c.in_ok-ranges.ensures.items;
    }

pub push_layer-requires-clause-long : goal.push_layer-requires-clause-long
push_layer-requires-clause-long c = c.loop-layer.invariant.long

pub push_layer-requires-clause-each : goal.push_layer-requires-clause-each
push_layer-requires-clause-each c =
    let T : List ℕ → Type 0 = λ table. AreRangesOf table c.loop-layer.numbers.items c.loop-layer.ranges.items in
    subst T (sym c.deref.ensures.value) c.loop-layer.invariant.each

pub loop-layer-preserved : goal.loop-layer-preserved
loop-layer-preserved c =
    let T : List ℕ → Type 0 = λ table. AreRangesOf table c.push_layer.new.numbers.items c.push_layer.new.ranges.items in
    record {
      long = c.in_ok-push_layer.ensures.long;
      each = subst T c.deref.ensures.value c.in_ok-push_layer.ensures.each;
    }

pub invariant_of-result-clause-each : goal.invariant_of-result-clause-each
invariant_of-result-clause-each c = c.loop-layer.invariant.each

pub returns-clause-layers : goal.returns-clause-layers
returns-clause-layers c =
    c.loop-layer.invariant.long ∙ same_order c.loop-layer.layer c.args.layers c.loop-layer.auto.layer-end
    c.loop-layer-test.false

pub invariant_of-result-clause-shorter : goal.invariant_of-result-clause-shorter
invariant_of-result-clause-shorter c = c.in_ok-short.ensures ∙ ap (map short_range) c.deref-2.ensures.value
