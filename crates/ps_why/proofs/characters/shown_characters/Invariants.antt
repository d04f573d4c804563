use Rattle.std.proofs.Common.{◌≡◌, ◌++◌, drop}
use Rattle.std.specs.Prelude.{string_bytes}
use Rattle.ps_why.specs.Shown.{shown_characters}
use Rattle.ps_why.proofs.characters.shown_characters.Given as goal

-- the characters passed by are shown, and the others lie ahead
abbrev pub invariant-loop-at : goal.invariant-loop-at
invariant-loop-at l = string_bytes l.made ++ shown_characters (drop l.at l.characters) ≡ shown_characters l.characters
