-- What lines for people begin with.
use Rattle.std.specs.Prelude.{ℕ, Bool, if◌then◌else◌, List, [], ◌++◌, codes}

-- the text's name, where it is one of several
abbrev pub front_of : Bool → List ℕ → List ℕ
front_of is_named name = if is_named then name ++ codes ": " else []
