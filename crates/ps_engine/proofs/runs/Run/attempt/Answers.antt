use Rattle.std.proofs.Common.{ℕ, Option, List, sym, subst}
use Rattle.ps_model.specs.board.Grid.{Grid}
use Rattle.ps_match.specs.Nowhere.{HasMotionsIn}
use Rattle.ps_model.specs.board.Attempts.{Result}
use Rattle.ps_engine.specs.RulesInRoom.{rule_meaning}
use Rattle.ps_engine.specs.Runs.{state_of_run}
use Rattle.ps_engine.specs.Workspaces.{state_of}
use Rattle.ps_engine.proofs.Unchanged.{made_kept}
use Rattle.ps_engine.proofs.runs.Run.attempt.Goals as goal

-- where no cell changed, neither did a motion
pub invariant_of-self : goal.invariant_of-self
invariant_of-self g c =
    let table : Option (List ℕ) = g.B.Board.table c.args.self.now.board.now in
    let after : Result = record { state = state_of g.B.Board c.attempt.new.work; changed = c.attempt.result } in
    record {
      all_motions = subst (λ (grid : Grid). HasMotionsIn grid c.args.self.now.motions)
          (sym (made_kept (rule_meaning table c.args.rule.now) (state_of_run g.B.Board c.args.self.now) after
          c.attempt.ensures.attempt c.if-not-attempt.true)) c.args.self.now.all_motions;
    }
