use Rattle.std.proofs.Common.{◌≡◌, List}
use Rattle.ps_model.specs.board.Grid.{Grid}
use Rattle.ps_model.specs.board.Turns.{Script}
use Rattle.ps_model.specs.session.Sessions.{after}
use Rattle.ps_model.specs.session.StartSteps.{start_turns}
use Rattle.ps_stage.specs.Standings.{script_for, play_of}
use Rattle.ps_stage.specs.Meanings.{meaning_of}
use Rattle.ps_stage.proofs.stage.Stage.start_turns.Given as goal

abbrev pub decreases-loop-left : goal.decreases-loop-left
decreases-loop-left g l = l.left

-- what is left comes to the same as all
abbrev pub invariant-loop-left : goal.invariant-loop-left
invariant-loop-left g l =
    let script : Script = script_for g.B.Board.table_for l.fn.self.game (g.R.Rules.meant l.fn.rules.plain)
    (g.R.Rules.meant l.fn.rules.late) in
    record {
      game : l.self.game ≡ l.fn.self.game;
      meaning : meaning_of g.R.Rules l.rules ≡ meaning_of g.R.Rules l.fn.rules;
      basis : l.level.basis ≡ l.fn.level.basis;
      entry : l.level.entry ≡ l.fn.level.entry;
      rest : (history : List Grid) → after l.fn.self.text (start_turns script l.most (play_of history l.fn.level)) ≡
          after l.self.text (start_turns script l.left (play_of history l.level));
    }
