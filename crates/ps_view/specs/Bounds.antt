-- What holds of every screen: it has no more rows and columns than the terminal, and no character in it is an order.
use Rattle.std.specs.Prelude.{◌≡◌, ℕ, ◌+◌, ◌≤◌, false, List, [], ◌∷◌, length, All}
use Rattle.ps_view.specs.declared.corners.Corner.{Corner}
use Rattle.ps_view.specs.declared.sizes.Size.{Size}
use Rattle.ps_view.specs.HarmlessTexts.{columns_of, is_order}
use Rattle.ps_view.specs.Games.{KnownGame}
use Rattle.ps_view.specs.Screens.{LinesBelow, screen_of}
use Rattle.ps_view.specs.Pieces.{Piece, view_behind_pieces}
use Rattle.ps_view.specs.Views.{blank_view, view_behind}

-- no character of a row is an order
abbrev pub IsHarmlessRow : List ℕ → Type 0
IsHarmlessRow row = All (λ character. is_order character ≡ false) row

-- the same of rows
abbrev pub AreHarmlessRows : List (List ℕ) → Type 0
AreHarmlessRows rows = All IsHarmlessRow rows

-- whatever an output has, no row that is shown has an order
abbrev pub ScreensAreHarmless : Type 0
ScreensAreHarmless = (game : KnownGame) (size : Size) (output : List ℕ) →
    AreHarmlessRows (view_behind (blank_view game size) output).screen

-- nor where sizes are told
abbrev pub ScreensOfPiecesAreHarmless : Type 0
ScreensOfPiecesAreHarmless = (game : KnownGame) (size : Size) (pieces : List Piece) →
    AreHarmlessRows (view_behind_pieces (blank_view game size) pieces).screen

-- a screen has no more rows than the terminal
abbrev pub ScreensFit : Type 0
ScreensFit = (size : Size) (corner : Corner) (frame : List (List ℕ)) (told : LinesBelow) →
    length (screen_of size corner frame told) ≤ size.rows

-- how many columns a row covers
abbrev pub covered : List ℕ → ℕ
covered [] = 0
covered (character ∷ others) = columns_of character + covered others

-- and no row goes past the last column
abbrev pub RowsFit : Type 0
RowsFit = (size : Size) (corner : Corner) (frame : List (List ℕ)) (told : LinesBelow) →
    All (λ row. covered row ≤ size.columns) (screen_of size corner frame told)
