-- From what a session's own functions find to what the calls on it tell.
use Rattle.std.proofs.Common.{◌≡◌, ℕ, Bool, true, false, List, Option, Result, Ok, Err, Some, sym, subst}
use Rattle.std.specs.Prelude.{IfOk}
use Rattle.ps_laws.specs.Fronts.{session_of, whole_front}
use Rattle.ps_model.specs.board.Turns.{script_at}
use Rattle.ps_model.specs.game.Games.{Game, game}
use Rattle.lizhakoven.specs.declared.places.Place.{Place}
use Rattle.lizhakoven.specs.declared.seeing.Seen.{Seen}
use Rattle.lizhakoven.specs.declared.statuses.Status.{Status}
use Rattle.lizhakoven.specs.Calls.{HasTold, IsLook, IsSeenIn, IsText}
use Rattle.lizhakoven.specs.HeldSessions.{HasText, HeldValue, IsAt}
use Rattle.lizhakoven.specs.Places.{IsSeen}
use Rattle.lizhakoven.specs.Statuses.{status_told}

-- a session by its parts
abbrev pub held_of : Game → ℕ → List ℕ → HeldValue
held_of read entry keys = record { read = read; entry = entry; keys = keys }

pub held_same : (read other : Game) (entry : ℕ) (keys more : List ℕ) (held : HeldValue) → read ≡ other → keys ≡ more →
    held_of other entry more ≡ held → held_of read entry keys ≡ held
held_same read other entry keys more held r k is = rw (r, k) is

-- where a session is is seen for every text of its game
pub at_each :
    {E : Type 0} (answer : Result Seen E) (held : HeldValue) (before after : List ℕ) →
    ((text : List ℕ) → game text ≡ Some held.read → IfOk answer (λ seen.
    IsSeen held.read.entries (session_of (script_at held.read held.entry) held.keys) before after seen)) →
    IfOk answer (λ seen. IsAt held before after seen)
at_each (Ok seen) held before after is = is
at_each (Err error) held before after is = tt

-- so is its text
pub text_each :
    {E : Type 0} (answer : Result (List ℕ) E) (held : HeldValue) →
    ((text : List ℕ) → game text ≡ Some held.read → IfOk answer (λ wrote.
    wrote ≡ whole_front (script_at held.read held.entry) held.keys)) →
    IfOk answer (λ wrote. HasText held wrote)
text_each (Ok wrote) held is = is
text_each (Err error) held is = tt

-- the status of a look, by whether the cells are told
pub look_told : (before after : List ℕ) (session : Option HeldValue) (place : Place) (is_told : Bool) (status : Status) →
    status ≡ status_told is_told → IsSeenIn before after session place is_told →
    IsLook before after session place status
look_told before after session place true status is seen =
    subst (λ (s : Status). IsLook before after session place s) (sym is) seen
look_told before after session place false status is seen =
    subst (λ (s : Status). IsLook before after session place s) (sym is) seen

-- the status of a text, by whether it is told
pub text_told : (from : ℕ) (before after : List ℕ) (session : Option HeldValue) (count : ℕ) (is_told : Bool)
    (status : Status) → status ≡ status_told is_told → HasTold from before after session count is_told →
    IsText from before after session count status
text_told from before after session count true status is told =
    subst (λ (s : Status). IsText from before after session count s) (sym is) told
text_told from before after session count false status is told =
    subst (λ (s : Status). IsText from before after session count s) (sym is) told
