use Rattle.std.proofs.Common.{◌≡◌, ℕ}
use Rattle.ps_model.specs.board.Attempts.{State}
use Rattle.ps_model.specs.board.Programs.{Progress, looped}
use Rattle.ps_engine.specs.RulesInRoom.{groups_meaning}
use Rattle.ps_engine.proofs.ComingBack.{Keeps}
use Rattle.ps_engine.specs.Runs.{fixed_in_run, state_of_run}
use Rattle.ps_engine.proofs.programs.play_loop.Given as goal

-- what is left of the loop comes to the same, and what the finder keeps has come here
abbrev pub invariant-loop-again : goal.invariant-loop-again
invariant-loop-again g l =
    let before : State = state_of_run g.B.Board l.fn.run in
    let now : State = state_of_run g.B.Board l.run in
    let table = g.B.Board.table l.fn.run.board.now in
    let run : ℕ → State → Progress = looped (groups_meaning table l.groups) in
    record {
      looped : run l.left now ≡ run l.fn.repeats before;
      fixed : fixed_in_run g.B.Board l.run ≡ fixed_in_run g.B.Board l.fn.run;
      keeps : Keeps run l.finder l.kept.of_passes now;
    }

-- the repeats that are left
abbrev pub decreases-loop-again : goal.decreases-loop-again
decreases-loop-again g l = l.left
