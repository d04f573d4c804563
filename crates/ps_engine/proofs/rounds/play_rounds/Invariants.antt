use Rattle.std.proofs.Common.{◌≡◌, ℕ, true}
use Rattle.ps_model.specs.board.Attempts.{Result, State}
use Rattle.ps_model.specs.board.Programs.{settled}
use Rattle.ps_engine.specs.RulesInRoom.{rules_meaning}
use Rattle.ps_engine.specs.Runs.{fixed_in_run, state_of_run}
use Rattle.ps_engine.proofs.ComingBack.{Keeps}
use Rattle.ps_engine.proofs.rounds.play_rounds.Given as goal

-- the rounds that are left come to the same, and what the finder keeps has come here
abbrev pub invariant-loop-left : goal.invariant-loop-left
invariant-loop-left g l =
    let now : State = state_of_run g.B.Board l.run in
    let meant = rules_meaning (g.B.Board.table l.fn.run.board.now) l.rules in
    let run : ℕ → State → Result = λ n state. settled meant n true state in
    record {
      settled : settled meant l.left true now ≡ settled meant l.most true (state_of_run g.B.Board l.fn.run);
      fixed : fixed_in_run g.B.Board l.run ≡ fixed_in_run g.B.Board l.fn.run;
      keeps : Keeps run l.finder l.kept now;
    }

-- the rounds that are left
abbrev pub decreases-loop-left : goal.decreases-loop-left
decreases-loop-left g l = l.left
