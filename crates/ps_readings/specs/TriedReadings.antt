-- The readings by which choices of members are tried: one of each choice.
use Rattle.std.specs.Prelude.{ℕ, Bool, List, []}
use Rattle.std.specs.List.{list_any}
use Rattle.ps_model.specs.declared.pieces.ObjectId.{ObjectId}
use Rattle.ps_model.specs.declared.pieces.Direction.TheVariants.{Up}
use Rattle.ps_model.specs.names.Names.{Names}
use Rattle.ps_model.specs.rules.SourceRules.{SourceRule}
use Rattle.ps_model.specs.meaning.Readings.{Reading}
use Rattle.ps_model.specs.meaning.ReadingMeanings.{is_possible}
use Rattle.ps_readings.specs.TurnsMade.{turn, with_members}

-- the reading of a choice: it faces up, and has no moves
abbrev pub of_members : List (ℕ × ObjectId) → Reading
of_members members = with_members (turn Up []) members

-- one of the choices makes a possible reading
abbrev pub some_is_possible : Names → SourceRule → List (List (ℕ × ObjectId)) → Bool
some_is_possible names rule choices = list_any (λ members. is_possible names rule (of_members members)) choices
