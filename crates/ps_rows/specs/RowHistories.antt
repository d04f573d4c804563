-- The boards of an undo history: the latest one as it is, and each before it by the step that leads there from the
-- next.
use Rattle.std.specs.Prelude.{◌≡◌, ℕ, ◌*◌, ⊤, All, Bool, Option, Some, None, List, [], ◌∷◌, ◌++◌, map, option_map}
use Rattle.ps_board.specs.Histories.{BoardShown}
use Rattle.ps_rows.specs.RowDifferences.{rows_changed}
use Rattle.ps_rows.specs.Showing.{grid_shown, AreMotionsShown, AreObjectsShown}
use Rattle.ps_rows.specs.declared.row_history.BoardStep.{BoardStep}
use Rattle.ps_rows.specs.declared.row_history.BoardStep.TheVariants.{Rows, Whole}

-- what a board keeps
pub record Kept : Type 0 where
  pub table : List ℕ
  pub width : ℕ
  pub height : ℕ
  pub layers : ℕ
  pub words : List (List Bool)

abbrev pub kept : List ℕ → ℕ → ℕ → ℕ → List (List Bool) → Kept
kept table width height layers words =
    record { table = table; width = width; height = height; layers = layers; words = words }

-- what it shows then
abbrev pub shown : Kept → BoardShown
shown board = record {
  table = Some board.table;
  grid = grid_shown board.table board.width board.height board.layers board.words;
}

-- each plane has the cells that show its object, or its motion
pub record IsBoard (board : Kept) : Type 0 where
  pub objects : AreObjectsShown board.table board.height board.words (board.width * board.height)
  pub motions : AreMotionsShown board.table board.layers board.height board.words (board.width * board.height)

-- a board with rows changed
abbrev pub with_rows : Kept → List (List Bool) → Kept
with_rows board words = kept board.table board.width board.height board.layers words

-- a history, as contracts see it: its boards, and the one that is ready to enter it
pub record HistoryShown : Type 0 where
  pub boards : List BoardShown
  pub ready : Option BoardShown

-- a step from one board to another
abbrev pub Step : Type 0 → Type 0
Step B = BoardStep B (List Bool)

-- the board that a step leads to where there is none yet
abbrev pub first_of : {B S : Type 0} → BoardStep B S → Option B
first_of (Rows rows) = None
first_of (Whole board) = Some board

-- steps between boards that keep what `keeps` says
module _ {B : Type 0} where
  -- the board that a step leads to
  abbrev pub stepped : Kept → Step B → (B → Kept) → Kept
  stepped board (Rows rows) keeps = with_rows board (rows_changed board.height board.words rows.items)
  stepped board (Whole other) keeps = keeps other

  -- what is known of a step: its rows lead to a board, and back again
  abbrev pub LeadsOn : Kept → Step B → Type 0
  LeadsOn board (Rows rows) = IsBoard (with_rows board (rows_changed board.height board.words rows.items))
  LeadsOn board (Whole other) = ⊤

  abbrev pub LeadsBack : Kept → Step B → Type 0
  LeadsBack board (Rows rows) =
      rows_changed board.height (rows_changed board.height board.words rows.items) rows.items ≡ board.words
  LeadsBack board (Whole other) = ⊤

  -- the oldest board of those behind a board by these steps, the first of which leads to the oldest; and all of them
  unfoldable pub oldest : Kept → List (Step B) → (B → Kept) → Kept
  oldest board [] keeps = board
  oldest board (step ∷ steps) keeps = stepped (oldest board steps keeps) step keeps

  unfoldable pub behind : Kept → List (Step B) → (B → Kept) → List Kept
  behind board [] keeps = []
  behind board (step ∷ steps) keeps = oldest board (step ∷ steps) keeps ∷ behind board steps keeps

  -- the boards of a history
  abbrev pub boards_of : Option B → List (Step B) → (B → Kept) → List BoardShown
  boards_of None steps keeps = []
  boards_of (Some latest) steps keeps = map shown (behind (keeps latest) steps keeps ++ keeps latest ∷ [])

  -- the board that is ready to enter it
  abbrev pub ready_of : Option B → Option (Step B) → (B → Kept) → Option BoardShown
  ready_of latest None keeps = None
  ready_of None (Some step) keeps = option_map (λ board. shown (keeps board)) (first_of step)
  ready_of (Some latest) (Some step) keeps = Some (shown (stepped (keeps latest) step keeps))

  -- without a latest board there is none before it; and each board behind a latest one is one
  abbrev pub AreBehind : Option B → List (Step B) → (B → Kept) → Type 0
  AreBehind None steps keeps = steps ≡ []
  AreBehind (Some latest) steps keeps = All IsBoard (behind (keeps latest) steps keeps)

  -- the step to the board that is ready leads there and back
  abbrev pub IsReady : Option B → Option (Step B) → (B → Kept) → Type 0
  IsReady latest None keeps = ⊤
  IsReady None (Some step) keeps = ⊤
  IsReady (Some latest) (Some step) keeps = LeadsOn (keeps latest) step × LeadsBack (keeps latest) step
