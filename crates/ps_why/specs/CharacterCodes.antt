-- The codes of characters, as they are written.
use Rattle.std.specs.Prelude.{ℕ, nat_lt, true, if◌then◌else◌, List, [], ◌++◌, codes}
use Rattle.std.specs.Fmt.{digits}

-- the zeros before the digits of a character's code, of which there are four at least
abbrev pub zeros : ℕ → List ℕ
zeros code = if nat_lt code 16 then codes "000" else (if nat_lt code 256 then codes "00" else (if nat_lt code
    4096 then codes "0" else []))

-- a character's code, as U+0041
abbrev pub code_words : ℕ → List ℕ
code_words code = codes "U+" ++ (zeros code ++ digits 16 true code)
