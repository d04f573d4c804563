use Rattle.std.proofs.Common.{◌≡◌, drop, map}
use Rattle.ps_match.specs.Topics.{DifferOnlyAbout}
use Rattle.ps_model.specs.board.Attempts.{State}
use Rattle.ps_model.specs.board.Programs.{program_run, sections_run}
use Rattle.ps_engine.specs.RulesInRoom.{section_meaning, sections_meaning}
use Rattle.ps_engine.specs.Runs.{fixed_in_run, state_of_run}
use Rattle.ps_engine.proofs.programs.play_unless_quiet.Given as goal

-- what is left of the program comes to the same, and what has changed is told
abbrev pub invariant-loop-number : goal.invariant-loop-number
invariant-loop-number g l =
    let before : State = state_of_run g.B.Board l.fn.run in
    let now : State = state_of_run g.B.Board l.run in
    let table = g.B.Board.table l.fn.run.board.now in
    let sections = l.fn.program.sections in
    record {
      run : sections_run (map (section_meaning table) (drop l.number sections)) l.repeats now ≡ program_run
          (sections_meaning table sections) before;
      fixed : fixed_in_run g.B.Board l.run ≡ fixed_in_run g.B.Board l.fn.run;
      differ : DifferOnlyAbout l.stirred (g.B.Board.grid l.run.board.now) (g.B.Board.grid l.fn.run.board.now);
      program : l.program ≡ l.fn.program;
    }
