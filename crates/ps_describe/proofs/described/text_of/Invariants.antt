use Rattle.std.proofs.Common.{◌≡◌, ◌++◌, drop}
use Rattle.std.specs.Prelude.{encode_utf8, string_bytes}
use Rattle.std.specs.List.{flat_map}
use Rattle.ps_describe.proofs.described.text_of.Given as goal

-- what is left comes to the whole
abbrev pub invariant-loop-character : goal.invariant-loop-character
invariant-loop-character l = string_bytes l.text ++ flat_map encode_utf8 (drop l.character-index l.characters)
    ≡ flat_map encode_utf8 l.characters
