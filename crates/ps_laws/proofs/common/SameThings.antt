-- Texts, objects, motions, slots and cells: what passes a test for being the same is the same, and each is the same as
-- itself.
use Rattle.std.proofs.Common.{◌≡◌, ℕ, zero, suc, true, Option, Some, None, List, [], ◌∷◌, refl, sym, ◌∙◌, ap, ap₂}
use Rattle.std.specs.Str.{bytes_eq}
use Rattle.std.proofs.lemmas.Bool.{and_parts, eqb-true, eq-eqb, false≢true}
use Rattle.std.proofs.lemmas.Slice.Eq.{bytes_eq-Decides}
use Rattle.ps_model.specs.declared.pieces.Direction.TheVariants.{Up, Down, Left, Right}
use Rattle.ps_model.specs.declared.pieces.Motion.{Motion}
use Rattle.ps_model.specs.declared.pieces.Motion.TheVariants.{Still, Going, Acting}
use Rattle.ps_model.specs.declared.pieces.ObjectId.{ObjectId}
use Rattle.ps_model.specs.declared.pieces.Slot.{Slot}
use Rattle.ps_model.specs.declared.pieces.Slot.TheVariants.{Bare, Holds}
use Rattle.ps_model.specs.names.Names.{same_object}
use Rattle.ps_model.specs.meaning.Fitting.{motion_number, same_motion}
use Rattle.ps_model.specs.board.Attempts.{same_slot, same_cell}
use Rattle.ps_model.specs.board.Grid.{Grid}
use Rattle.ps_model.specs.board.Movement.{is_number}
use Rattle.ps_model.specs.board.Turns.{same_cells}
use Rattle.ps_laws.proofs.common.Truths.{same_tests}

-- two texts, whichever is asked about the other
pub bytes_eq-sym : (xs ys : List ℕ) → bytes_eq xs ys ≡ bytes_eq ys xs
bytes_eq-sym xs ys =
    let forth = bytes_eq-Decides xs ys in
    let back = bytes_eq-Decides ys xs in
    same_tests (bytes_eq xs ys) (bytes_eq ys xs) (λ e. back.1 (sym (forth.0 e))) (λ e. forth.1 (sym (back.0 e)))

-- numbers that may be absent
pub is_number-true : (o : Option ℕ) (t : ℕ) → is_number o t ≡ true → o ≡ Some t
is_number-true None t e = absurd (false≢true e)
is_number-true (Some m) t e = ap Some (eqb-true m t e)

pub is_number-own : (o : Option ℕ) (t : ℕ) → o ≡ Some t → is_number o t ≡ true
is_number-own o t e = rw e (eq-eqb t t refl)

-- objects
abbrev pub object_of : ℕ → ObjectId
object_of number = record { 0 = number }

pub same_object-true : (first second : ObjectId) → same_object first second ≡ true → first ≡ second
same_object-true first second e = ap object_of (eqb-true first.0 second.0 e)

pub same_object-own : (object : ObjectId) → same_object object object ≡ true
same_object-own object = eq-eqb object.0 object.0 refl

-- motions, by their numbers
abbrev motion_of : ℕ → Motion
motion_of zero = Still
motion_of (suc zero) = Going Up
motion_of (suc (suc zero)) = Going Down
motion_of (suc (suc (suc zero))) = Going Left
motion_of (suc (suc (suc (suc zero)))) = Going Right
motion_of (suc (suc (suc (suc (suc n))))) = Acting

motion_of-number : (motion : Motion) → motion_of (motion_number motion) ≡ motion
motion_of-number Still = refl
motion_of-number (Going Up) = refl
motion_of-number (Going Down) = refl
motion_of-number (Going Left) = refl
motion_of-number (Going Right) = refl
motion_of-number Acting = refl

pub same_motion-true : (first second : Motion) → same_motion first second ≡ true → first ≡ second
same_motion-true first second e =
    sym (motion_of-number first) ∙ ap motion_of (eqb-true (motion_number first) (motion_number second) e)
    ∙ motion_of-number second

-- slots and cells
pub same_slot-own : (slot : Slot) → same_slot slot slot ≡ true
same_slot-own Bare = refl
same_slot-own (Holds object motion) =
    rw (eq-eqb object.0 object.0 refl, eq-eqb (motion_number motion) (motion_number motion) refl) refl

pub same_cell-own : (cell : List Slot) → same_cell cell cell ≡ true
same_cell-own [] = refl
same_cell-own (slot ∷ slots) = rw (same_slot-own slot) (same_cell-own slots)

pub same_cells-own : (cells : List (List Slot)) → same_cells cells cells ≡ true
same_cells-own [] = refl
same_cells-own (cell ∷ cells) = rw (same_cell-own cell) (same_cells-own cells)

pub same_slot-true : (first second : Slot) → same_slot first second ≡ true → first ≡ second
same_slot-true Bare Bare h = refl
same_slot-true Bare (Holds object motion) h = absurd (false≢true h)
same_slot-true (Holds object motion) Bare h = absurd (false≢true h)
same_slot-true (Holds object motion) (Holds other moving) h =
    let parts = and_parts (same_object object other) (same_motion motion moving) h in
    ap₂ (λ (o : ObjectId) (m : Motion). let slot : Slot = Holds o m in slot) (same_object-true object other parts.0)
    (same_motion-true motion moving parts.1)

pub same_cell-true : (first second : List Slot) → same_cell first second ≡ true → first ≡ second
same_cell-true [] [] h = refl
same_cell-true [] (y ∷ ys) h = absurd (false≢true h)
same_cell-true (x ∷ xs) [] h = absurd (false≢true h)
same_cell-true (x ∷ xs) (y ∷ ys) h =
    let parts = and_parts (same_slot x y) (same_cell xs ys) h in
    ap₂ (λ (z : Slot) (zs : List Slot). z ∷ zs) (same_slot-true x y parts.0) (same_cell-true xs ys parts.1)

pub same_cells-true : (first second : List (List Slot)) → same_cells first second ≡ true → first ≡ second
same_cells-true [] [] h = refl
same_cells-true [] (y ∷ ys) h = absurd (false≢true h)
same_cells-true (x ∷ xs) [] h = absurd (false≢true h)
same_cells-true (x ∷ xs) (y ∷ ys) h =
    let parts = and_parts (same_cell x y) (same_cells xs ys) h in
    ap₂ (λ (z : List Slot) (zs : List (List Slot)). z ∷ zs) (same_cell-true x y parts.0) (same_cells-true xs ys parts.1)

-- grids
abbrev grid_of : ℕ → ℕ → ℕ → List (List Slot) → Grid
grid_of width height layers cells = record { width = width; height = height; layers = layers; cells = cells }

-- those of one size whose cells are the same
pub same_grid : (g h : Grid) → g.width ≡ h.width → g.height ≡ h.height → g.layers ≡ h.layers →
    same_cells g.cells h.cells ≡ true → g ≡ h
same_grid g h wide high layered same =
    ap₂ (λ (width height : ℕ). grid_of width height g.layers g.cells) wide high
    ∙ ap₂ (grid_of h.width h.height) layered (same_cells-true g.cells h.cells same)
