-- Marks below a line.
use Rattle.std.specs.Prelude.{ℕ, nat_le, nat_lt, Bool, ◌&&◌, ◌||◌}
use Rattle.std.specs.Prelude.{Some, None}
use Rattle.ps_why.specs.declared.marks.Mark.{Mark}
use Rattle.ps_why.specs.declared.marks.Marks.{Marks}

-- a mark stands below a place of the text
abbrev pub has : Mark → ℕ → Bool
has mark place = nat_le mark.from place && nat_lt place mark.to

-- one of the marks does
abbrev pub have : Marks → ℕ → Bool
have marks place = elim marks.other
    [ None ↦ has marks.mark place | Some other ↦ has marks.mark place || has other place ]
