use Rattle.std.proofs.Common.{◌∷◌, [], ◌++◌, ◌∙◌, List, map, refl, sym, ap}
use Rattle.std.specs.Prelude.{filter}
use Rattle.ps_model.specs.declared.compiled.Claim.{Claim}
use Rattle.ps_model.specs.meaning.CompiledCells.{is_alone, clear_write}
use Rattle.ps_rules.proofs.Loops.{loop-end}
use Rattle.ps_compile.proofs.MadePieces.{passed_more, kept_more}
use Rattle.ps_compile.proofs.writes.push_cleared.Goals.{then-is_alone+in_ok-push, else-is_alone}
use Rattle.ps_compile.proofs.writes.push_cleared.Goals as goal

pub loop-claim-preserved : goal.loop-claim-preserved
loop-claim-preserved c =
    let made = c.loop-claim.writes.items in
    elim c.if-is_alone.branch [
      | then-is_alone+in_ok-push w ↦
          passed_more (is_alone c.args.right.now) clear_write made c.if-is_alone.writes.items _ _ c.args.left.now
          c.loop-claim.claim-index c.loop-claim-test.true (sym c.is_alone.ensures ∙ w.if-is_alone.true)
          (ap (λ writes. writes.items) w.writes-is ∙ w.in_ok-push.ensures.items
          ∙ ap (λ write. made ++ write ∷ []) w.clear_write.ensures) c.loop-claim.invariant
      | else-is_alone w ↦
          kept_more (is_alone c.args.right.now) clear_write made c.if-is_alone.writes.items _ _ c.args.left.now
          c.loop-claim.claim-index c.loop-claim-test.true (sym c.is_alone.ensures ∙ w.if-is_alone.false)
          (ap (λ writes. writes.items) w.writes-is) c.loop-claim.invariant
    ]

pub returns : goal.returns
returns c =
    loop-end c.loop-claim.writes.items _ (λ (left : List Claim).
    map clear_write (filter (is_alone c.args.right.now) left)) c.args.left.now
    c.loop-claim.claim-index refl c.loop-claim.invariant c.loop-claim-test.false
