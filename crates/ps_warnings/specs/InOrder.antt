-- Two lists of warnings, each in the order of lines, as one in that order.
use Rattle.std.specs.Prelude.{ℕ, nat_lt, Bool, List, [], ◌∷◌, ◌++◌, take, drop}
use Rattle.std.specs.List.{prefix_len}
use Rattle.ps_warnings.specs.declared.kinds.Warning.{Warning}

-- the warning is of a line above this one
abbrev pub is_above : ℕ → Warning → Bool
is_above line warning = nat_lt warning.line line

-- how many warnings at the front are
abbrev pub count_above : ℕ → List Warning → ℕ
count_above line told = prefix_len (is_above line) told

-- before each of the ones come those of the others that are of lines above
abbrev pub in_order : List Warning → List Warning → List Warning
in_order [] others = others
in_order (one ∷ more) others =
    take (count_above one.line others) others
    ++ (one ∷ in_order more (drop (count_above one.line others) others))
