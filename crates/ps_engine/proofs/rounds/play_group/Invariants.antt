use Rattle.std.proofs.Common.{◌≡◌, drop, false, map}
use Rattle.ps_model.specs.board.Programs.{after_change, round}
use Rattle.ps_engine.specs.RulesInRoom.{rule_meaning, rules_meaning}
use Rattle.ps_engine.specs.Runs.{fixed_in_run, state_of_run}
use Rattle.ps_engine.proofs.rounds.play_group.Given as goal

-- the rules passed by were attempted, and changed nothing
abbrev pub invariant-loop-number : goal.invariant-loop-number
invariant-loop-number g l =
    let table = g.B.Board.table l.fn.run.board.now in
    record {
      round : after_change false (round (map (rule_meaning table) (drop l.number l.rules))
          (state_of_run g.B.Board l.run)) ≡ round (rules_meaning table l.rules) (state_of_run g.B.Board l.fn.run);
      fixed : fixed_in_run g.B.Board l.run ≡ fixed_in_run g.B.Board l.fn.run;
    }
