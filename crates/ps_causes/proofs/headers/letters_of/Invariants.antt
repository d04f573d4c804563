use Rattle.std.proofs.Common.{◌≡◌, ◌++◌, drop, map}
use Rattle.std.specs.Prelude.{string_bytes}
use Rattle.ps_text.specs.WordViews.{text_of}
use Rattle.ps_causes.specs.LikeHeaders.{letters_of}
use Rattle.ps_causes.proofs.headers.letters_of.Given as goal

-- the letters of the words passed by are there, and those of the others lie ahead
abbrev pub invariant-loop-at : goal.invariant-loop-at
invariant-loop-at l =
    string_bytes l.made ++ letters_of (map text_of (drop l.at l.words)) ≡ letters_of (map text_of l.words)
