-- What an attempt works on, as definitions see it: the state of the board and the queue, and what rules leave as it is.
use Rattle.std.specs.Prelude.{◌≡◌, ℕ, length}
use Rattle.std.proofs.Common.{◌∙◌, ap, refl}
use Rattle.ps_model.specs.board.Attempts.{State}
use Rattle.ps_board.specs.declared.board.Board.{Ghosts as Board}
use Rattle.ps_match.specs.FixedParts.{FixedPart, fixed_part}
use Rattle.ps_engine.specs.declared.workspace.Workspace.{Workspace}

-- the grid of the board, and the queue
abbrev pub state_of : {B Words : Type 0} → Board B Words → Workspace B Words → State
state_of kind work = record { grid = kind.grid work.board.now; queue = work.queue.now }

-- the fixed part of the board; for how many rows there is scratch memory; and what is lent
pub record FixedIn : Type 0 where
  pub board : FixedPart
  pub rows : ℕ
  pub board_lent : ℕ
  pub queue_lent : ℕ
  pub scratch_lent : ℕ

abbrev pub fixed_in : {B Words : Type 0} → Board B Words → Workspace B Words → FixedIn
fixed_in kind work = record {
  board = fixed_part kind work.board.now;
  rows = length work.scratch.now;
  board_lent = work.board.ghost_name;
  queue_lent = work.queue.ghost_name;
  scratch_lent = work.scratch.ghost_name;
}

-- where two are one, so are their parts
pub same_board : {a b : FixedIn} → a ≡ b → a.board ≡ b.board
same_board e = ap (λ (f : FixedIn). f.board) e

pub same_layers : {a b : FixedIn} → a ≡ b → a.board.own_layers ≡ b.board.own_layers
same_layers e = ap (λ (f : FixedIn). f.board.own_layers) e

pub same_sides : {a b : FixedIn} → a ≡ b → a.board.sides ≡ b.board.sides
same_sides e = ap (λ (f : FixedIn). f.board.sides) e

pub same_rows : {a b : FixedIn} → a ≡ b → a.rows ≡ b.rows
same_rows e = ap (λ (f : FixedIn). f.rows) e

-- two are one where the fixed parts of their boards are, and there is scratch memory for as many rows
pub fixed_by : {a b : FixedPart} {m n x y z : ℕ} → a ≡ b → m ≡ n →
    (let f : FixedIn = record { board = a; rows = m; board_lent = x; queue_lent = y; scratch_lent = z } in f)
    ≡ (let f : FixedIn = record { board = b; rows = n; board_lent = x; queue_lent = y; scratch_lent = z } in f)
fixed_by board rows = rw (board, rows) refl

-- what was lent anew is as it was for whoever lent it
pub fixed_anew : {a b : FixedPart} {k m n x y z p q r u v w : ℕ} → k ≡ m →
    (let f : FixedIn = record { board = a; rows = m; board_lent = x; queue_lent = y; scratch_lent = z } in f)
    ≡ (let f : FixedIn = record { board = b; rows = n; board_lent = p; queue_lent = q; scratch_lent = r } in f) →
    (let f : FixedIn = record { board = a; rows = k; board_lent = u; queue_lent = v; scratch_lent = w } in f)
    ≡ (let f : FixedIn = record { board = b; rows = n; board_lent = u; queue_lent = v; scratch_lent = w } in f)
fixed_anew rows same = fixed_by (same_board same) (rows ∙ same_rows same)
