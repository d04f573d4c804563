use Rattle.std.proofs.Common.{◌≡◌, ◌∙◌, ◌+◌, ◌-◌, ◌<◌, ◌≤◌, ℕ, length, get_or, ap, subst, arith}
use Rattle.std.specs.Str.{IsCharBoundary}
use Rattle.std.proofs.lemmas.Grind.{common_steps}
use Rattle.std.proofs.lemmas.Str.{IsCharBoundary-after_ascii}
use Rattle.ps_text.specs.declared.rows.LineStart.{LineStart}
use Rattle.ps_text.proofs.rows.row_at.Goals as goal

pub returns-clause-next : goal.returns-clause-next
returns-clause-next c =
    let text = c.args.text.now in
    let above = c.args.above in
    let below = c.in_ok-row.below in
    let end = c.line_end-end.result in
    let within : end ≤ length text = rw c.as_bytes.ensures.value at c.line_end-end.ensures.within in
    let feed : end < length text → get_or text end 0 ≡ 10 =
    rw c.as_bytes.ensures.value at c.line_end-end.ensures.feed in
    let long : length c.range.result.now ≡ end - above.start = ap length c.range.ensures.value
    ∙ (let order : above.start ≤ end = c.line_end-end.ensures.behind in grind (arith, common_steps)) in
    let starts : below.start ≡ above.start + length c.range.result.now + 1 =
    ap (λ (a : LineStart). a.start) c.in_ok-row.ensures.below in
    let counts : below.number ≡ above.number + 1 = ap (λ (a : LineStart). a.number) c.in_ok-row.ensures.below in
    let here : end + 1 ≡ below.start = omega (arith, starts, long, c.line_end-end.ensures.behind) in
    record {
      further = omega (arith, starts);
      within = omega (arith, here, within);
      depth = omega (arith, starts, c.in_ok-row.ensures.depth, c.requires.depth);
      counted = omega (arith, starts, counts, c.requires.counted);
      cuttable = λ there. subst (λ (n : ℕ). IsCharBoundary text n) here
          (IsCharBoundary-after_ascii text end c.utf8.text (omega (arith, here)) (let inside : end < length text =
          omega (arith, here) in omega (arith, feed inside)));
    }
