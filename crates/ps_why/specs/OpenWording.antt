-- What is said about a character that may be any of several objects.
use Rattle.std.specs.Prelude.{ℕ, nat_lt, if◌then◌else◌, Option, Some, None, List, [], ◌++◌, codes, encode_utf8}
use Rattle.std.specs.Fmt.{decimal}
use Rattle.ps_causes.specs.declared.causes.OpenName.{OpenName}
use Rattle.ps_facts.specs.declared.names.Named.{Named}
use Rattle.ps_why.specs.CharacterCodes.{code_words}

-- the second of `count` objects, if there is one, and whether there are more
abbrev pub second_words : ℕ → Option Named → List ℕ
second_words count None = []
second_words count (Some named) =
    if nat_lt 2 count then codes ", `" ++ (named.name.now ++ codes "` or another")
    else codes " or `" ++ (named.name.now ++ codes "`")

-- the objects that a name may be
abbrev pub objects_words : OpenName → List ℕ
objects_words open_name =
    codes "`" ++ (open_name.first.name.now ++ (codes "`" ++ second_words open_name.count open_name.second))

-- that a character may be any of several objects
abbrev pub open_glyph_words : ℕ → ℕ → OpenName → List ℕ
open_glyph_words character column open_name =
    codes "`" ++ (encode_utf8 character ++ (codes "` (" ++ (code_words character ++ (codes ") in column " ++
    (decimal column ++ (codes " may be " ++ (objects_words open_name ++ (codes ", as line " ++
    (decimal open_name.declared ++ codes " says: write a character that stands for one of them.")))))))))
