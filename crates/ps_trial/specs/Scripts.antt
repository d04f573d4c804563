-- Scripts with the same turns.
use Rattle.std.specs.Prelude.{◌≡◌}
use Rattle.ps_model.specs.board.Turns.{Script}

-- a script is played as another is: by the same options, names, rules and win conditions
pub record PlaysAs (script other : Script) : Type 0 where
  pub options : script.options ≡ other.options
  pub names : script.names ≡ other.names
  pub plain : script.plain ≡ other.plain
  pub late : script.late ≡ other.late
  pub wins : script.wins ≡ other.wins
