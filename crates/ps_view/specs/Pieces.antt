-- An output that comes in pieces, with sizes told between them: a view makes no difference between them and the whole,
-- as long as the size stays.
use Rattle.std.specs.Prelude.{◌≡◌, ℕ, true, Option, IfSome, List, [], ◌∷◌, ◌++◌, All}
use Rattle.std.specs.List.{flat_map}
use Rattle.ps_view.specs.declared.sizes.Size.{Size}
use Rattle.ps_view.specs.Games.{KnownGame}
use Rattle.ps_view.specs.Views.{View, Step, blank_view, is_size, view_behind, handed_on, piece_step, view_of}

-- what is handed on for a piece and another behind it, is what is handed on for the one, and then for the other behind
-- the view that the first leaves
abbrev pub PiecesAreAsTheWhole : Type 0
PiecesAreAsTheWhole = (view : View) (first second : List ℕ) →
    handed_on view (first ++ second) ≡ handed_on view first ++ handed_on (view_behind view first) second

-- and the view is left alike
abbrev pub PiecesLeaveTheSame : Type 0
PiecesLeaveTheSame = (view : View) (first second : List ℕ) →
    view_behind view (first ++ second) ≡ view_behind (view_behind view first) second

-- sizes between pieces ------------------------------------------------------------------------------------------------

-- bytes of an output, and the size of the terminal that was told before them, if one was
pub record Piece : Type 0 where
  pub told : Option Size
  pub bytes : List ℕ

-- these bytes, behind that size
abbrev pub piece_of : Option Size → List ℕ → Piece
piece_of told bytes = record { told = told; bytes = bytes }

-- the view behind pieces
abbrev pub view_behind_pieces : View → List Piece → View
view_behind_pieces view [] = view
view_behind_pieces view (piece ∷ pieces) = view_behind_pieces (piece_step view piece.told piece.bytes).view pieces

-- what the terminal is handed for pieces
abbrev pub handed_on_pieces : View → List Piece → List ℕ
handed_on_pieces view [] = []
handed_on_pieces view (piece ∷ pieces) =
    let step : Step = piece_step view piece.told piece.bytes in step.bytes ++ handed_on_pieces step.view pieces

-- the bytes of pieces
abbrev pub output_of : List Piece → List ℕ
output_of pieces = flat_map (λ piece. piece.bytes) pieces

-- no other size was told before a piece
abbrev pub HasSize : Size → Piece → Type 0
HasSize size piece = IfSome piece.told (λ told. is_size size told ≡ true)

-- with one size for ever what is handed on is the view of the whole output
abbrev pub OneSizeIsAsTheWhole : Type 0
OneSizeIsAsTheWhole = (game : KnownGame) (size : Size) (pieces : List Piece) → All (HasSize size) pieces →
    handed_on_pieces (blank_view game size) pieces ≡ view_of game size (output_of pieces)
