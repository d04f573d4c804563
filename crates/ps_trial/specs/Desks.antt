-- What the turns of an input work on, as contracts see it.
use Rattle.std.specs.Prelude.{◌≡◌, ⊤, Bool, false, Option, List, ℕ}
use Rattle.ps_model.specs.board.Grid.{Grid}
use Rattle.ps_model.specs.board.Turns.{Script}
use Rattle.ps_board.specs.Rows.{DifferOnlyOn}
use Rattle.ps_turn.specs.States.{HaveSameSides, TurnParts, script_with}
use Rattle.ps_turn.specs.declared.rules.Rules.{Ghosts as Rules}
use Rattle.ps_turn.specs.declared.rules.TurnRules.{TurnRules}
use Rattle.ps_turn.specs.declared.outcomes.DoneTurn.{DoneTurn}
use Rattle.ps_turn.specs.declared.outcomes.Turned.{Turned}
use Rattle.ps_turn.specs.declared.outcomes.Turned.TheVariants.{Blocked, Restarted, Done}
use Rattle.ps_trial.specs.SilentStarts.{Boards}

-- what turns rest on: the table of the boards, and what of the game they look at
pub record Basis : Type 0 where
  pub table : Option (List ℕ)
  pub parts : TurnParts

-- the game with the programs that its rules are on such boards
abbrev pub script_on : {R B Words : Type 0} → Rules R B Words → Basis → TurnRules R → Script
script_on kind basis rules =
    script_with basis.parts (kind.meant rules.plain basis.table) (kind.meant rules.late basis.table)

-- where turns have come to: the boards; what the board showed when it was last made to show what another one does; and
-- whether a turn has set a checkpoint
pub record DeskValue : Type 0 where
  pub basis : Basis
  pub boards : Boards
  pub origin : Grid
  pub is_set : Bool

-- turns lead from there to there: all rests on the same, the board keeps its sides, and without a checkpoint a restart goes
-- back to the same board
pub record LeadsOn (before now : DeskValue) : Type 0 where
  pub basis : now.basis ≡ before.basis
  pub sides : HaveSameSides now.boards.board before.boards.board
  pub unset : now.is_set ≡ false → before.is_set ≡ false
  pub restart_board : now.is_set ≡ false → now.boards.restart_board ≡ before.boards.restart_board

-- a trial: the boards of the spot, and those to which the last input led
pub record TrialValue : Type 0 where
  pub basis : Basis
  pub here : Boards
  pub there : Boards
  pub is_set : Bool

-- the boards of a spot, by their tables and what they show, and the turns of an input from there are of one size. Outside of
-- rows the boards show the same, and without a checkpoint a restart goes back to the same board
pub record AreOfOneSize (board_table own_restart_table : Option (List ℕ)) (here : Boards) (rows : List Bool)
    (desk : DeskValue) : Type 0 where
  pub table : board_table ≡ desk.basis.table
  pub restart_table : own_restart_table ≡ desk.basis.table
  pub sides : HaveSameSides here.board desk.boards.board
  pub restart_sides : HaveSameSides here.restart_board desk.boards.board
  pub differ : DifferOnlyOn rows here.board desk.boards.board
  pub unset : desk.is_set ≡ false → desk.boards.restart_board ≡ here.restart_board

-- a done turn that is told not to have changed the board has left it as it was
abbrev pub IsSameIfUnchanged : Turned DoneTurn → Grid → Grid → Type 0
IsSameIfUnchanged (Blocked message) before now = ⊤
IsSameIfUnchanged (Restarted message) before now = ⊤
IsSameIfUnchanged (Done done) before now = done.changed ≡ false → now ≡ before

-- the boards that a done turn came to are those before it, but for what it is told to have changed
abbrev pub IsSameUnless : Turned DoneTurn → Boards → Boards → Type 0
IsSameUnless (Blocked message) before now = ⊤
IsSameUnless (Restarted message) before now = ⊤
IsSameUnless (Done done) before now = (done.changed ≡ false → now.board ≡ before.board)
    × (done.checkpoint ≡ false → now.restart_board ≡ before.restart_board)
