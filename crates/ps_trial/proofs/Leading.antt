-- Turns that lead on, one after the other.
use Rattle.std.proofs.Common.{◌∙◌}
use Rattle.ps_model.specs.board.Grid.{Grid}
use Rattle.ps_turn.specs.States.{HaveSameSides}
use Rattle.ps_trial.specs.Desks.{DeskValue, LeadsOn}

-- grids of the same sides as a third one
same_sides : (a b c : Grid) → HaveSameSides a b → HaveSameSides b c → HaveSameSides a c
same_sides a b c first second = record {
  width = first.width ∙ second.width;
  height = first.height ∙ second.height;
  layers = first.layers ∙ second.layers;
}

-- turns that lead on, and then others, lead on
pub leads_twice : (a b c : DeskValue) → LeadsOn a b → LeadsOn b c → LeadsOn a c
leads_twice a b c first second = record {
  basis = second.basis ∙ first.basis;
  sides = same_sides c.boards.board b.boards.board a.boards.board second.sides first.sides;
  unset = λ h. first.unset (second.unset h);
  restart_board = λ h. second.restart_board h ∙ first.restart_board (second.unset h);
}
