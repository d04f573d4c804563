use Rattle.std.proofs.Common.{◌≡◌, drop, map}
use Rattle.ps_model.specs.board.Programs.{after_change, pass}
use Rattle.ps_engine.specs.RulesInRoom.{rules_meaning, groups_meaning}
use Rattle.ps_engine.specs.Runs.{fixed_in_run, state_of_run}
use Rattle.ps_engine.proofs.rounds.pass.Given as goal

-- the groups passed by were played
abbrev pub invariant-loop-rules : goal.invariant-loop-rules
invariant-loop-rules g l =
    let table = g.B.Board.table l.fn.run.board.now in
    record {
      pass : after_change l.changed (pass (map (rules_meaning table) (drop l.rules-index l.groups))
          (state_of_run g.B.Board l.run)) ≡ pass (groups_meaning table l.groups) (state_of_run g.B.Board l.fn.run);
      fixed : fixed_in_run g.B.Board l.run ≡ fixed_in_run g.B.Board l.fn.run;
    }
