-- The board after a turn that isn't done, one that doesn't count, and one that does.
use Rattle.std.proofs.Common.{◌≡◌, ◌∙◌, Bool, true, false, refl, sym, ap}
use Rattle.std.specs.Prelude.{Option}
use Rattle.ps_model.specs.declared.play.Input.{Input}
use Rattle.ps_model.specs.board.Grid.{Grid}
use Rattle.ps_model.specs.board.Turns.{Script, turn}
use Rattle.ps_turn.specs.States.{HaveSameSides, done_shown, is_done, outcome_shown}
use Rattle.ps_turn.specs.declared.outcomes.DoneTurn.{DoneTurn}
use Rattle.ps_turn.specs.declared.outcomes.Turned.{Turned}
use Rattle.ps_turn.specs.declared.outcomes.Turned.TheVariants.{Blocked, Restarted, Done}
use Rattle.ps_trial.specs.declared.counting.Counting.{Counting}
use Rattle.ps_trial.specs.declared.counting.Counting.TheVariants.{Always}
use Rattle.ps_trial.specs.Desks.{IsSameIfUnchanged}
use Rattle.ps_trial.specs.TurnsTaken.{board_taken, counts}
use Rattle.ps_trial.proofs.Unchanged.{stayed_same}

pub not_done : (counting : Counting) (turned : Turned DoneTurn) (board g : Grid) →
    ((done : DoneTurn) → turned ≡ Done done → ⊥) → board ≡ board_taken counting turned board g
not_done counting (Blocked message) board g none = refl
not_done counting (Restarted message) board g none = refl
not_done counting (Done done) board g none = absurd (none done refl)

pub not_counted : (counting : Counting) (turned : Turned DoneTurn) (done : DoneTurn) (board g : Grid) → turned ≡ Done done →
    false ≡ counts counting done → board ≡ board_taken counting turned board g
not_counted counting turned done board g is test =
    ap (λ (counts : Bool). elim counts [ true ↦ g | false ↦ board ]) test
    ∙ ap (λ (other : Turned DoneTurn). board_taken counting other board g) (sym is)

pub counted : (counting : Counting) (turned : Turned DoneTurn) (done : DoneTurn) (board g : Grid) → turned ≡ Done done →
    true ≡ counts counting done → g ≡ board_taken counting turned board g
counted counting turned done board g is test =
    ap (λ (counts : Bool). elim counts [ true ↦ g | false ↦ board ]) test
    ∙ ap (λ (other : Turned DoneTurn). board_taken counting other board g) (sym is)

-- the board after a turn of which each done one counts
pub always : (turned : Turned DoneTurn) (before now : Grid) → (is_done turned ≡ false → now ≡ before) →
    now ≡ board_taken Always turned before now
always (Blocked message) before now undone = undone refl
always (Restarted message) before now undone = undone refl
always (Done done) before now undone = refl

-- a done turn that is told not to have changed the board has left it as it was
pub same_if_unchanged : (script : Script) (input : Option Input) (turned : Turned DoneTurn) (before now : Grid) →
    outcome_shown turned now ≡ turn script input before → HaveSameSides now before → IsSameIfUnchanged turned before now
same_if_unchanged script input (Blocked message) before now ran sides = tt
same_if_unchanged script input (Restarted message) before now ran sides = tt
same_if_unchanged script input (Done done) before now ran sides =
    stayed_same script input before (done_shown done now) (sym ran) sides.width sides.height sides.layers
