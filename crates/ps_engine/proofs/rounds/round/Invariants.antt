use Rattle.std.proofs.Common.{◌≡◌, ◌-◌, drop, length, map}
use Rattle.ps_model.specs.board.Programs.{after_change, round}
use Rattle.ps_engine.specs.RulesInRoom.{rule_meaning, rules_meaning}
use Rattle.ps_engine.specs.Runs.{fixed_in_run, state_of_run}
use Rattle.ps_engine.proofs.rounds.round.Given as goal

-- the rules passed by were attempted
abbrev pub invariant-loop-number : goal.invariant-loop-number
invariant-loop-number g l =
    let table = g.B.Board.table l.fn.run.board.now in
    record {
      round : after_change l.changed (round (map (rule_meaning table) (drop l.number l.rules))
          (state_of_run g.B.Board l.run)) ≡ round (rules_meaning table l.rules) (state_of_run g.B.Board l.fn.run);
      fixed : fixed_in_run g.B.Board l.run ≡ fixed_in_run g.B.Board l.fn.run;
    }

abbrev pub decreases-loop-number : goal.decreases-loop-number
decreases-loop-number g l = length l.rules - l.number
