use Rattle.std.proofs.Common.{rules, ◌≡◌, ◌∷◌, [], ◌++◌, refl, sym, ap, arith}
use Rattle.std.proofs.lemmas.Grind.{common_steps}
use Rattle.std.proofs.lemmas.List.Elements.{All-push}
use Rattle.ps_text.specs.declared.rows.LineStart.{LineStart}
use Rattle.ps_text.specs.Rows.{IsRow}
use Rattle.ps_text.proofs.LineSteps.{one_row, row_more}
use Rattle.ps_text.proofs.rows.table.Goals as goal

pub loop-above-init : goal.loop-above-init
loop-above-init c =
    let rows : c.push.new.self.items ≡ c.in_ok-row.row ∷ [] = search rules in
    let next = c.in_ok-row.ensures.next in
    record {
      told = rw rows (one_row c.args.text.now c.in_ok-row.row _ c.in_ok-row.above refl c.mark_len.ensures.length refl
          refl c.mark_len.ensures.cuttable.0 c.in_ok-row.ensures.row c.in_ok-row.ensures.below);
      whole = rw rows (search (rules, c.in_ok-row.ensures.whole));
      number = rw rows (sym (ap (λ (a : LineStart). a.number) c.in_ok-row.ensures.below));
      some = rw rows (omega arith);
      within = next.within;
      depth = next.depth;
      counted = next.counted;
      cuttable = next.cuttable;
    }

pub loop-above-preserved : goal.loop-above-preserved
loop-above-preserved c =
    let rows : c.push-in-loop-above.new.self.items ≡ c.loop-above.rows.items ++ c.in_ok-row-2.row ∷ [] = search rules in
    let next = c.in_ok-row-2.ensures.next in
    let counts = ap (λ (a : LineStart). a.number) c.in_ok-row-2.ensures.below in
    record {
      told = rw rows (row_more c.args.text.now c.loop-above.rows.items c.in_ok-row-2.row c.loop-above.above
          c.in_ok-row-2.below _ c.loop-above-test.true c.in_ok-row-2.ensures.row c.in_ok-row-2.ensures.below
          c.loop-above.invariant.told);
      whole = rw rows (All-push (IsRow c.args.text.now) c.loop-above.rows.items c.in_ok-row-2.row
          c.loop-above.invariant.whole c.in_ok-row-2.ensures.whole);
      number = rw rows (grind (arith, common_steps, counts, c.loop-above.invariant.number));
      some = rw rows (grind (arith, common_steps));
      within = next.within;
      depth = next.depth;
      counted = next.counted;
      cuttable = next.cuttable;
    }
