-- The first fault of faults that are joined.
use Rattle.std.proofs.Common.{◌≡◌, ℕ, Bool, true, false, List, [], ◌∷◌, ◌++◌, Some, None, refl, sym, ap, ◌∙◌}
use Rattle.std.specs.List.{flat_map}
use Rattle.std.proofs.lemmas.Grind.{flat_map-append}
use Rattle.std.proofs.lemmas.List.{append-nil}
use Rattle.ps_model.specs.declared.faults.Fault.{Fault}
use Rattle.ps_model.specs.declared.faults.FaultKind.{FaultKind}
use Rattle.ps_model.specs.text.Faults.{first_fault, when}
use Rattle.ps_model.specs.text.Lines.{Line}
use Rattle.ps_model.specs.text.LineNumbers.{line_at, here}
use Rattle.ps_laws.proofs.common.LinesInOrder.{here-there}

-- where the first part has one
pub first-front : (front behind : List Fault) (fault : Fault) → first_fault front ≡ Some fault →
    first_fault (front ++ behind) ≡ Some fault
first-front [] behind fault e = absurd (let h = e in cc)
first-front (first ∷ others) behind fault e = e

-- where none is first, there is none
pub none-first : (faults : List Fault) → first_fault faults ≡ None → faults ≡ []
none-first [] e = refl
none-first (first ∷ others) e = absurd (let h = e in cc)

-- faults after none
pub behind-none : (front behind : List Fault) → front ≡ [] → front ++ behind ≡ behind
behind-none front behind e = ap (λ (faults : List Fault). faults ++ behind) e

-- a fault that isn't told
pub untold : (test : Bool) (kind : FaultKind) (line : ℕ) → when test kind line ≡ [] → test ≡ false
untold true kind line e = cc
untold false kind line e = refl

-- the faults of a line that is there, and of no other
pub faults-here : (f : Line → List Fault) (text : List ℕ) (line : ℕ) → (line_at text line).is_there ≡ true →
    flat_map f (here text line) ≡ f (line_at text line)
faults-here f text line there = ap (flat_map f) (here-there text line there) ∙ append-nil (f (line_at text line))

-- a fault of the first lines
pub first-of-lines : (f : Line → List Fault) (all lines rest : List Line) (fault : Fault) → all ≡ lines ++ rest →
    first_fault (flat_map f lines) ≡ Some fault → first_fault (flat_map f all) ≡ Some fault
first-of-lines f all lines rest fault split e =
    ap (λ (ls : List Line). first_fault (flat_map f ls)) split ∙ ap first_fault (flat_map-append f lines rest)
    ∙ first-front (flat_map f lines) (flat_map f rest) fault e

-- no fault of the first lines
pub none-of-lines : (f : Line → List Fault) (all lines rest : List Line) → all ≡ lines ++ rest →
    flat_map f lines ≡ [] → flat_map f rest ≡ flat_map f all
none-of-lines f all lines rest split e =
    sym (ap (flat_map f) split ∙ flat_map-append f lines rest
    ∙ ap (λ (faults : List Fault). faults ++ flat_map f rest) e)
