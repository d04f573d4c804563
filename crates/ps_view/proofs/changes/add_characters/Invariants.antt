use Rattle.std.proofs.Common.{◌≡◌, ◌++◌, take}
use Rattle.std.specs.Prelude.{encode_utf8}
use Rattle.std.specs.List.{flat_map}
use Rattle.ps_view.proofs.changes.add_characters.Given as goal

-- the characters passed by are added
abbrev pub invariant-loop-character : goal.invariant-loop-character
invariant-loop-character l = l.orders ≡ l.fn.orders ++ flat_map encode_utf8 (take l.character-index l.characters)
