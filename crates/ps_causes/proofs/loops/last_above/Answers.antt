use Rattle.std.proofs.Common.{◌≡◌, ◌+◌, ℕ, List, rules, arith, true, false}
use Rattle.ps_model.specs.text.LineNumbers.{HasLine}
use Rattle.ps_causes.specs.Loops.{is_loop_line}
use Rattle.ps_causes.proofs.LoopLines.{last-found, last-kept}
use Rattle.ps_causes.proofs.loops.last_above.Goals as goal
use Rattle.ps_causes.proofs.loops.last_above.Goals.{then-branch, else-branch}

pub loop-above-preserved : goal.loop-above-preserved
loop-above-preserved c =
    let text : List ℕ = c.args.source.now in
    let above : ℕ = c.loop-above.above in
    elim c.if-branch.branch [
      | then-branch w ↦
          let there : HasLine text above = search (rules, arith) in
          let is : is_loop_line text above ≡ true = search rules in
          rw w.last-is (last-found text above (above + 1) there (omega arith) is)
      | else-branch w ↦
          let other : is_loop_line text above ≡ false = search rules in
          rw w.last-is (last-kept text above (above + 1) c.loop-above.last (omega arith) other c.loop-above.invariant)
    ]
