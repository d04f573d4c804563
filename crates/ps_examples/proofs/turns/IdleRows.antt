-- Rules that do nothing, worked by hand, and one that isn't among them since it has a command.
use Rattle.std.proofs.Common.{◌≡◌, false, true, [], ◌∷◌, refl}
use Rattle.ps_model.specs.declared.pieces.Direction.TheVariants.{Left, Right}
use Rattle.ps_model.specs.rules.SourceRules.{Commands, no_commands}
use Rattle.ps_model.specs.board.Attempts.{attempt}
use Rattle.ps_laws.specs.IdleRules.{nothing_done}
use Rattle.ps_examples.proofs.turns.SmallBoards.{becomes, rule_to, across, before}

-- [ 1 | 2 ] -> [ 4 | 5 ]: nowhere on the board do the two stand side by side
no_place : attempt (rule_to Right (((becomes 1 4 ∷ becomes 2 5 ∷ []) ∷ []) ∷ [])) (across before) ≡ nothing_done
    (across before)
no_place = refl

-- [ 1 ] [ 9 ] -> [ 4 ] [ 8 ]: the second row has no place, so the first isn't rewritten either
no_combination : attempt (rule_to Right (((becomes 1 4 ∷ []) ∷ []) ∷ ((becomes 9 8 ∷ []) ∷ []) ∷ [])) (across before) ≡
    nothing_done (across before)
no_combination = refl

-- [ 1 ] -> [ 1 ]
as_it_was : attempt (rule_to Left (((becomes 1 1 ∷ []) ∷ []) ∷ [])) (across before) ≡ nothing_done (across before)
as_it_was = refl

-- [ 1 ] -> [ 1 ] again: the command is queued
abbrev comes_again : Commands
comes_again = record {
  cancel = false;
  restart = false;
  again = true;
  checkpoint = false;
  win = false;
  message =
      no_commands.message;
}

with_command : attempt (record {
  direction = Left;
  rows = ((becomes 1 1 ∷ []) ∷ []) ∷ [];
  rewrites = true;
  commands =
      comes_again;
}) (across before)
    ≡ record { state = record { grid = (across before).grid; queue = comes_again }; changed = false }
with_command = refl
