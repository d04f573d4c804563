-- Rules that do nothing: those that find no place, and those that leave all they fit as it is.
use Rattle.std.proofs.Common.{◌≡◌, ℕ, zero, suc, ◌<◌, Bool, true, false, cond, ◌||◌, ◌&&◌, not, Option, Some, None}
use Rattle.std.proofs.Common.{List, [], ◌∷◌, length, map, filter, fold, get_or, slice_get, refl, sym, ◌∙◌, ap, ap₂}
use Rattle.std.proofs.Common.{arith}
use Rattle.std.specs.Prelude.{All, slice_set}
use Rattle.std.specs.Option.{option_or}
use Rattle.std.specs.List.{flat_map}
use Rattle.std.proofs.lemmas.Option.{same_Some}
use Rattle.std.proofs.lemmas.List.Elements.{All-head, All-tail, All-weaker}
use Rattle.std.proofs.Math.Bool.{or-false}
use Rattle.ps_model.specs.declared.pieces.Direction.{Direction}
use Rattle.ps_model.specs.declared.pieces.Slot.{Slot}
use Rattle.ps_model.specs.board.Grid.{Grid}
use Rattle.ps_model.specs.names.Names.{Names}
use Rattle.ps_model.specs.rules.SourceRules.{Commands, no_commands}
use Rattle.ps_model.specs.board.GameGrids.{IsCellOf, IsGridOf}
use Rattle.ps_model.specs.meaning.RuleMeanings.{CellMeaning, RuleMeaning}
use Rattle.ps_model.specs.board.Places.{stretches, search_order, fits_there, fits_along, cells_in, places}
use Rattle.ps_model.specs.board.Attempts.{State, Result, Rewritten, with_cell, rewritten_cell, rewritten_along}
use Rattle.ps_model.specs.board.Attempts.{combinations, all_fit, rewritten_rows, applied, both, queued, queue_after}
use Rattle.ps_model.specs.board.Attempts.{all_applied, attempt_by, combinations_on, attempt}
use Rattle.ps_laws.specs.IdleRules.{nothing_done, IsIdle, IsCellIn, FitsNowhere, FitsNone, LeavesAll}
use Rattle.ps_laws.proofs.common.Everywhere.{All-slice_get, All-joined}
use Rattle.ps_laws.proofs.common.SameThings.{same_cell-own}
use Rattle.ps_laws.proofs.common.Lists.{none-filtered}
use Rattle.ps_laws.proofs.alike.TurnedAttempts.{chosen_by}
use Rattle.ps_laws.proofs.common.Truths.{and_then, second-false, both-hold}

-- no place ------------------------------------------------------------------------------------------------------------

none-joined : {X Y : Type 0} (f : X → List Y) (xs : List X) → ((x : X) → f x ≡ []) → flat_map f xs ≡ []
none-joined f [] h = refl
none-joined f (x ∷ xs) h = rw (h x) (none-joined f xs h)

-- a cell of the rule that fits no cell of the board
nowhere-there : (g : Grid) (meaning : CellMeaning) → FitsNowhere g meaning →
    (number : ℕ) (found : Option (List Slot)) → slice_get g.cells number ≡ found → fits_there meaning found ≡ false
nowhere-there g meaning nowhere number None e = refl
nowhere-there g meaning nowhere number (Some cell) e =
    All-slice_get (λ cell. meaning.fits cell ≡ false) g.cells number cell nowhere e

-- no list of cells fits where one of the rule's cells fits none
nowhere-along : (g : Grid) (meaning : CellMeaning) → FitsNowhere g meaning → (meanings : List CellMeaning) (k : ℕ) →
    k < length meanings → get_or meanings k meaning ≡ meaning →
    (cells : List ℕ) → fits_along g meanings cells ≡ false
nowhere-along g meaning nowhere [] k within e cells = absurd (omega arith)
nowhere-along g meaning nowhere (first ∷ others) k within e [] = refl
nowhere-along g meaning nowhere (first ∷ others) zero within e (cell ∷ cells) =
    ap (λ (test : Bool). and_then test (fits_along g others cells))
    (ap (λ (here : CellMeaning). fits_there here (slice_get g.cells cell)) e
    ∙ nowhere-there g meaning nowhere cell (slice_get g.cells cell) refl)
nowhere-along g meaning nowhere (first ∷ others) (suc k) within e (cell ∷ cells) =
    second-false (fits_there first (slice_get g.cells cell)) (fits_along g others cells)
    (nowhere-along g meaning nowhere others k (omega arith) e cells)

nowhere-places : (g : Grid) (direction : Direction) (row : List (List CellMeaning)) →
    ((cells : List ℕ) → fits_along g (cells_in row) cells ≡ false) → places g direction row ≡ []
nowhere-places g direction row h =
    none-joined (λ end. filter (fits_along g (cells_in row)) (stretches g direction (map length row) end))
    (search_order g direction)
    (λ end. none-filtered (fits_along g (cells_in row)) (stretches g direction (map length row) end) h)

-- no combination where one row has no place
none-combined : (f : List (List CellMeaning) →
    List (List ℕ)) (rows : List (List (List CellMeaning))) (row : List (List CellMeaning)) (k : ℕ) → k < length rows →
    get_or rows k row ≡ row → f row ≡ [] →
    combinations (map f rows) ≡ []
none-combined f [] row k within e none = absurd (omega arith)
none-combined f (first ∷ others) row zero within e none =
    ap (λ (ps : List (List ℕ)). flat_map (λ rest. map (λ place. place ∷ rest) ps) (combinations (map f others)))
    (ap f e ∙ none)
    ∙ none-joined (λ rest. map (λ place. place ∷ rest) []) (combinations (map f others)) (λ rest. refl)
none-combined f (first ∷ others) row (suc k) within e none =
    ap (flat_map (λ rest. map (λ place. place ∷ rest) (f first))) (none-combined f others row k (omega arith) e none)

chosen-either : (test : Bool) (made otherwise : Rewritten) → (test ≡ true → made ≡ otherwise) →
    chosen_by test made otherwise ≡ otherwise
chosen-either true made otherwise h = h refl
chosen-either false made otherwise h = refl

-- an attempt that leaves the grid and the queue
left-as-it-was : (rule : RuleMeaning) (state : State) (pss : List (List (List ℕ))) →
    all_applied rule state.grid pss ≡ record { grid = state.grid; changed = false } →
    queue_after state.queue rule pss ≡ state.queue → attempt_by rule state pss ≡ nothing_done state
left-as-it-was rule state pss grid queue =
    ap₂ (λ (r : Rewritten) (commands : Commands). let result : Result =
    record { state = record { grid = r.grid; queue = commands }; changed = r.changed } in result) grid queue

without-combinations : (rule : RuleMeaning) (state : State) → attempt_by rule state [] ≡ nothing_done state
without-combinations rule state =
    let start : Rewritten = record { grid = state.grid; changed = false } in
    left-as-it-was rule state [] (chosen-either rule.rewrites start start (λ does. refl)) refl

pub attempt-nowhere : (rule : RuleMeaning) (meaning : CellMeaning) → IsCellIn rule meaning → (state : State) →
    FitsNowhere state.grid meaning →
    attempt rule state ≡ nothing_done state
attempt-nowhere rule meaning (row, place, cell) state nowhere =
    ap (attempt_by rule state)
    (none-combined (places state.grid rule.direction) rule.rows row place.0 place.1 place.2
    (nowhere-places state.grid rule.direction row
    (nowhere-along state.grid meaning nowhere (cells_in row) cell.0 cell.1 cell.2)))
    ∙ without-combinations rule state

pub idle-fitting_none : (names : Names) (rule : RuleMeaning) (meaning : CellMeaning) → IsCellIn rule meaning →
    FitsNone names meaning → IsIdle names rule
idle-fitting_none names rule meaning h none state shape =
    attempt-nowhere rule meaning h state (All-weaker (IsCellOf names) (λ cell.
    meaning.fits cell ≡ false) none state.grid.cells shape.cells)

-- cells left as they are ----------------------------------------------------------------------------------------------

put-itself : {X : Type 0} (xs : List X) (i : ℕ) (x : X) → slice_get xs i ≡ Some x → slice_set xs i x ≡ xs
put-itself [] i x e = refl
put-itself (y ∷ ys) zero x e = ap (λ first. first ∷ ys) (same_Some x y (sym e))
put-itself (y ∷ ys) (suc i) x e = ap (λ rest. y ∷ rest) (put-itself ys i x e)

-- a cell put in its own place
with_cell-itself : (r : Rewritten) (number : ℕ) (cell : List Slot) → slice_get r.grid.cells number ≡ Some cell →
    with_cell r number cell cell ≡ r
with_cell-itself r number cell e =
    ap₂ (λ (cells : List (List Slot)) (same : Bool). let g : Grid = r.grid in let made : Rewritten =
    record { grid = record g { cells = cells }; changed = r.changed || not same } in made)
    (put-itself r.grid.cells number cell e) (same_cell-own cell)
    ∙ ap (λ (changed : Bool). let made : Rewritten = record { grid = r.grid; changed = changed } in
    made) (or-false r.changed)

-- the cell of a rule leaves all cells of a grid that it fits as they are
abbrev Leaves : Grid → CellMeaning → Type 0
Leaves g meaning = All (λ cell. meaning.fits cell ≡ true → meaning.rewritten cell ≡ cell) g.cells

cell-left : (r : Rewritten) (meaning : CellMeaning) → Leaves r.grid meaning →
    (number : ℕ) (found : Option (List Slot)) → slice_get r.grid.cells number ≡ found →
    fits_there meaning found ≡ true →
    rewritten_cell r meaning number found ≡ r
cell-left r meaning leaves number None e fits = refl
cell-left r meaning leaves number (Some cell) e fits =
    ap (with_cell r number cell) (All-slice_get (λ cell. meaning.fits cell ≡ true →
    meaning.rewritten cell ≡ cell) r.grid.cells number cell leaves e fits)
    ∙ with_cell-itself r number cell e

along-left : (meanings : List CellMeaning) (cells : List ℕ) (r : Rewritten) → All (Leaves r.grid) meanings →
    fits_along r.grid meanings cells ≡ true → rewritten_along r meanings cells ≡ r
along-left [] cells r leave fit = refl
along-left (meaning ∷ meanings) [] r leave fit = refl
along-left (meaning ∷ meanings) (cell ∷ cells) r leave fit =
    let hold : (fits_there meaning (slice_get r.grid.cells cell) ≡ true) × (fits_along r.grid meanings cells ≡ true) =
    both-hold (fits_there meaning (slice_get r.grid.cells cell)) (fits_along r.grid meanings cells) fit in
    ap (λ (made : Rewritten). rewritten_along made meanings cells)
    (cell-left r meaning (All-head (Leaves r.grid) meaning meanings leave) cell (slice_get r.grid.cells cell) refl
    hold.0)
    ∙ along-left meanings cells r (All-tail (Leaves r.grid) meaning meanings leave) hold.1

rows-left : (rows : List (List (List CellMeaning))) (ps : List (List ℕ)) (r : Rewritten) →
    All (All (All (Leaves r.grid))) rows → all_fit r.grid rows ps ≡ true → rewritten_rows r rows ps ≡ r
rows-left [] ps r leave fit = refl
rows-left (row ∷ rows) [] r leave fit = refl
rows-left (row ∷ rows) (place ∷ ps) r leave fit =
    let hold : (fits_along r.grid (cells_in row) place ≡ true) × (all_fit r.grid rows ps ≡ true) =
    both-hold (fits_along r.grid (cells_in row) place) (all_fit r.grid rows ps) fit in
    ap (λ (made : Rewritten). rewritten_rows made rows ps)
    (along-left (cells_in row) place r (All-joined (Leaves r.grid) row
    (All-head (All (All (Leaves r.grid))) row rows leave)) hold.0)
    ∙ rows-left rows ps r (All-tail (All (All (Leaves r.grid))) row rows leave) hold.1

folded-left : (rows : List (List (List CellMeaning))) (pss : List (List (List ℕ))) (r : Rewritten) →
    All (All (All (Leaves r.grid))) rows → fold (applied rows) r pss ≡ r
folded-left rows [] r leave = refl
folded-left rows (ps ∷ pss) r leave =
    ap (λ (made : Rewritten). fold (applied rows) made pss)
    (chosen-either (all_fit r.grid rows ps) (rewritten_rows r rows ps) r (rows-left rows ps r leave))
    ∙ folded-left rows pss r leave

-- no commands ---------------------------------------------------------------------------------------------------------

kept_message : (message : Option (List ℕ)) → option_or message None ≡ message
kept_message None = refl
kept_message (Some text) = refl

nothing-joins : (queue : Commands) → both queue no_commands ≡ queue
nothing-joins queue = rw (
  or-false queue.cancel,
  or-false queue.restart,
  or-false queue.again,
  or-false queue.checkpoint,
  or-false queue.win,
  kept_message queue.message,
) refl

-- the queue and no commands, by what it holds
nothing-enters : (queue : Commands) → queued queue no_commands ≡ queue
nothing-enters queue = by-cases queue.cancel queue.restart where
  by-cases : (cancel restart : Bool) → cond cancel queue (cond (restart && true) queue (both queue no_commands)) ≡ queue
  by-cases true restart = refl
  by-cases false true = refl
  by-cases false false = nothing-joins queue

pub queue-left : (queue : Commands) (rule : RuleMeaning) → rule.commands ≡ no_commands → (pss : List (List (List ℕ))) →
    queue_after queue rule pss ≡ queue
queue-left queue rule none [] = refl
queue-left queue rule none (ps ∷ pss) = ap (queued queue) none ∙ nothing-enters queue

-- cells of the game left as they are, on a grid of the game
leaves-there : (names : Names) (g : Grid) → IsGridOf names g → (rows : List (List (List CellMeaning))) →
    All (All (All (LeavesAll names))) rows → All (All (All (Leaves g))) rows
leaves-there names g shape rows all =
    All-weaker (All (All (LeavesAll names))) (All (All (Leaves g))) (λ row parts.
    All-weaker (All (LeavesAll names)) (All (Leaves g)) (λ part meanings.
    All-weaker (LeavesAll names) (Leaves g) (λ meaning leaves.
    All-weaker (IsCellOf names) (λ cell. meaning.fits cell ≡ true →
    meaning.rewritten cell ≡ cell) leaves g.cells shape.cells) part meanings) row parts) rows all

-- a rule that leaves all it fits
pub idle-leaving_all : (names : Names) (rule : RuleMeaning) → rule.commands ≡ no_commands →
    All (All (All (LeavesAll names))) rule.rows → IsIdle names rule
idle-leaving_all names rule none all state shape =
    let start : Rewritten = record { grid = state.grid; changed = false } in
    let pss : List (List (List ℕ)) = combinations_on state.grid rule in
    left-as-it-was rule state pss
    (chosen-either rule.rewrites (fold (applied rule.rows) start pss) start (λ does.
    folded-left rule.rows pss start (leaves-there names state.grid shape rule.rows all)))
    (queue-left state.queue rule none pss)
