-- What the writer below a view was handed since the view began.
use Rattle.std.specs.Prelude.{ℕ, Bool, Option, is_none, List, ◌++◌, take}
use Rattle.std.specs.List.{list_all}
use Rattle.ps_devices.specs.Devices.{Grows}
use Rattle.ps_view.specs.Beginnings.{Beginning}
use Rattle.ps_view.specs.Pieces.{Piece, handed_on_pieces, view_behind_pieces}
use Rattle.ps_view.specs.Views.{View, blank_view, piece_step}

-- a view before its first piece
abbrev pub first_view : Beginning → View
first_view begun = blank_view begun.game begun.size

-- a view of that beginning behind pieces
abbrev pub view_then : Beginning → List Piece → View
view_then begun pieces = view_behind_pieces (first_view begun) pieces

-- no size was told before any of the pieces
abbrev pub are_unsized : List Piece → Bool
are_unsized pieces = list_all (λ piece. is_none piece.told) pieces

-- the writer has what it had, and behind it the view of the pieces, by the sizes that were told before them
abbrev pub IsShown : Beginning → List Piece → Option (List ℕ) → Type 0
IsShown begun pieces after = Grows begun.before after (handed_on_pieces (first_view begun) pieces)

-- the same, and a front of what the view makes of one more piece
pub record IsShownOn (begun : Beginning) (pieces : List Piece) (after : Option (List ℕ)) : Type 0 where
  pub next : Piece
  pub count : ℕ
  pub wrote : Grows begun.before after (handed_on_pieces (first_view begun) pieces
      ++ take count (piece_step (view_then begun pieces) next.told next.bytes).bytes)

-- there is such a piece
abbrev pub IsShownInPart : Beginning → List Piece → Option (List ℕ) → Type 0
IsShownInPart begun pieces after = ∥ IsShownOn begun pieces after ∥₁
