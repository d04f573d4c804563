-- What rules leave of a board as it is, whatever they rewrite: the layer that each object owns, the origin, the sides.
use Rattle.std.specs.Prelude.{◌≡◌, ℕ, Option, List}
use Rattle.std.proofs.Common.{ap, refl}
use Rattle.ps_model.specs.board.Grid.{Grid}
use Rattle.ps_board.specs.declared.board.Board.{Ghosts as Board}
use Rattle.ps_match.specs.InRoom.{sides_of}

pub record FixedPart : Type 0 where
  pub own_layers : Option (List ℕ)
  pub origin : Grid
  pub sides : ℕ × ℕ × ℕ

-- that of a board of any kind
abbrev pub fixed_part : {B Words : Type 0} → Board B Words → B → FixedPart
fixed_part kind board = record {
  own_layers = kind.table board;
  origin = kind.origin board;
  sides = sides_of (kind.grid board);
}

-- where two are one, so is each of their parts
pub same_layers : {a b : FixedPart} → a ≡ b → a.own_layers ≡ b.own_layers
same_layers e = ap (λ (f : FixedPart). f.own_layers) e

pub same_origin : {a b : FixedPart} → a ≡ b → a.origin ≡ b.origin
same_origin e = ap (λ (f : FixedPart). f.origin) e

pub same_sides : {a b : FixedPart} → a ≡ b → a.sides ≡ b.sides
same_sides e = ap (λ (f : FixedPart). f.sides) e

pub fixed_by : {l m : Option (List ℕ)} {o p : Grid} {s t : ℕ × ℕ × ℕ} → l ≡ m → o ≡ p → s ≡ t →
    (let a : FixedPart = record { own_layers = l; origin = o; sides = s } in a)
    ≡ (let b : FixedPart = record { own_layers = m; origin = p; sides = t } in b)
fixed_by layers origin sides = rw (layers, origin, sides) refl
