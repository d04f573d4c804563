use Rattle.std.proofs.Common.{◌≡◌, drop, map}
use Rattle.ps_model.specs.board.Attempts.{State}
use Rattle.ps_model.specs.board.Programs.{program_run, sections_run}
use Rattle.ps_engine.specs.RulesInRoom.{section_meaning, sections_meaning}
use Rattle.ps_engine.specs.Runs.{fixed_in_run, state_of_run}
use Rattle.ps_engine.proofs.programs.play_sections.Given as goal

-- what is left of the program comes to the same
abbrev pub invariant-loop-section : goal.invariant-loop-section
invariant-loop-section g l =
    let before : State = state_of_run g.B.Board l.fn.run in
    let now : State = state_of_run g.B.Board l.run in
    let table = g.B.Board.table l.fn.run.board.now in
    record {
      run : sections_run (map (section_meaning table) (drop l.section-index l.sections)) l.repeats now ≡ program_run
          (sections_meaning table l.sections) before;
      fixed : fixed_in_run g.B.Board l.run ≡ fixed_in_run g.B.Board l.fn.run;
    }
