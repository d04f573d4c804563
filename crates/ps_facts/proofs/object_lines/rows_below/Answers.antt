use Rattle.std.proofs.Common.{◌≡◌, ◌+◌, ◌-◌, ◌∙◌, sym, arith, rules, true, false}
use Rattle.ps_model.specs.names.ObjectLines.{is_sprite_row}
use Rattle.ps_model.specs.text.LineNumbers.{line_at}
use Rattle.ps_facts.proofs.RowsBelow.{no_more, one_more}
use Rattle.ps_facts.proofs.object_lines.rows_below.Goals as goal

pub returns-then-not-branch-clause-count : goal.returns-then-not-branch-clause-count
returns-then-not-branch-clause-count c =
    let none : is_sprite_row (line_at c.args.source.now c.in-Some.next) ≡ false = search rules in
    sym (no_more c.loop-count.count _ _ _ none c.in-Some.ensures.first) ∙ c.loop-count.invariant.told

pub loop-count-preserved : goal.loop-count-preserved
loop-count-preserved c =
    let row : is_sprite_row (line_at c.args.source.now c.in-Some.next) ≡ true = search rules in
    record {
      told =
          sym (one_more c.loop-count.count (5 - c.loop-count.count) (5 - (c.loop-count.count + 1)) _ _ _ (omega arith)
          row c.in-Some.ensures.first)
          ∙ c.loop-count.invariant.told;
      there = c.in-Some.ensures.there;
    }
