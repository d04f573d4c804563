-- What the rules of a game's turns mean, and the script that the game is by them.
use Rattle.std.specs.Prelude.{◌≡◌, ℕ, Option, List}
use Rattle.std.proofs.Common.{ap}
use Rattle.ps_model.specs.board.Programs.{Section}
use Rattle.ps_model.specs.board.Turns.{Script}
use Rattle.ps_board.specs.declared.board.Board.{Ghosts as Board}
use Rattle.ps_turn.specs.declared.rules.Rules.{Ghosts as Rules}
use Rattle.ps_turn.specs.declared.rules.TurnRules.{TurnRules}
use Rattle.ps_stage.specs.Standings.{SessionParts, script_for}

-- the programs that they are on boards whose objects own these layers
pub record Meaning : Type 0 where
  pub plain : Option (List ℕ) → List Section
  pub late : Option (List ℕ) → List Section

abbrev pub meaning_of : {R B Words : Type 0} → Rules R B Words → TurnRules R → Meaning
meaning_of kind rules = record { plain = kind.meant rules.plain; late = kind.meant rules.late }

-- a game played by rules on boards of a kind
abbrev pub script_by : {B Words R : Type 0} → Board B Words → Rules R B Words → SessionParts → TurnRules R → Script
script_by boards kind parts rules = script_for boards.table_for parts (kind.meant rules.plain) (kind.meant rules.late)

-- rules that mean one thing mean one in each of their parts
pub same_plain : {a b : Meaning} → a ≡ b → a.plain ≡ b.plain
same_plain e = ap (λ (m : Meaning). m.plain) e

pub same_late : {a b : Meaning} → a ≡ b → a.late ≡ b.late
same_late e = ap (λ (m : Meaning). m.late) e
