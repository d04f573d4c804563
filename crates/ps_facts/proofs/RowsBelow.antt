-- The rows of a sprite, line by line.
use Rattle.std.proofs.Common.{◌≡◌, ℕ, zero, suc, ◌+◌, ◌-◌, true, false, List, ◌∷◌, take, arith}
use Rattle.std.specs.List.{prefix_len}
use Rattle.ps_model.specs.names.ObjectLines.{is_sprite_row}
use Rattle.ps_model.specs.text.Lines.{Line}

-- how many rows stand on top of the first `most` lines
abbrev pub rows_of : ℕ → List Line → ℕ
rows_of most lines = prefix_len is_sprite_row (take most lines)

-- a line that is none ends them
pub no_more : (count : ℕ) (line : Line) (others lines : List Line) → is_sprite_row line ≡ false →
    lines ≡ line ∷ others → count + rows_of (5 - count) lines ≡ count
no_more count line others lines e d = rw d (ended (5 - count)) where
  ended : (most : ℕ) → count + rows_of most (line ∷ others) ≡ count
  ended zero = omega arith
  ended (suc most) = rw e (omega arith)

-- a line that is one goes on with them
pub one_more : (count most less : ℕ) (line : Line) (others lines : List Line) → most ≡ less + 1 →
    is_sprite_row line ≡ true → lines ≡ line ∷ others →
    count + rows_of most lines ≡ count + 1 + rows_of less others
one_more count most less line others lines n e d =
    let next : most ≡ suc less = omega arith in rw (next, d, e) (omega arith)
