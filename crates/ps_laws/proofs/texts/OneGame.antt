-- A text has a game or faults.
use Rattle.std.proofs.Common.{ℕ, ◌≡◌, ◌⊎◌, inl, inr, Some, None, List, [], ◌∷◌, refl, sym, ◌∙◌, ap, arith}
use Rattle.std.specs.List.{IsAmong}
use Rattle.std.proofs.lemmas.Option.{same_Some}
use Rattle.ps_model.specs.declared.faults.Fault.{Fault}
use Rattle.ps_model.specs.text.Lines.{lines_of}
use Rattle.ps_model.specs.game.Games.{Game, game_read, unless, faults}
use Rattle.ps_model.specs.text.Faults.{first_fault}
use Rattle.ps_model.specs.game.HeldFaults.{hidden_faults, IsFaultOf}
use Rattle.ps_laws.specs.OneGame.{AtMostOneGame, FaultBarsGame, FaultlessIsGame, GameIsFaultless, GameOrFault}
use Rattle.ps_laws.specs.OneGame.{FirstIsFault}
use Rattle.ps_laws.proofs.texts.HeldFaults.{hidden_are_behind}
use Rattle.ps_laws.proofs.texts.GameLaws.{game_unless}

-- the value of an option
pub at_most_one_game : AtMostOneGame
at_most_one_game text first second e f = same_Some first second (sym e ∙ f)

-- faults, and what is read unless there are some
barred : (found : List Fault) (read : Game) → (found ≡ [] → ⊥) → unless found read ≡ None
barred [] read some = absurd (some refl)
barred (first ∷ others) read some = refl

-- a list with an element isn't empty
none_among : (found : List Fault) (fault : Fault) → IsAmong found fault → found ≡ [] → ⊥
none_among [] fault among e = omega (arith, among.1.0)
none_among (first ∷ others) fault among e = let clash = e in cc

none_first : (found : List Fault) (fault : Fault) → first_fault found ≡ Some fault → found ≡ [] → ⊥
none_first [] fault first e = let clash = first in cc
none_first (head ∷ others) fault first e = let clash = e in cc

-- a text with a fault has a list of faults that isn't empty
listed : (text : List ℕ) (fault : Fault) → IsFaultOf text fault → faults text ≡ [] → ⊥
listed text fault (inl first) e = none_first (faults text) fault first e
listed text fault (inr (inl among)) e = none_among (faults text) fault among.0 e
listed text fault (inr (inr hidden)) e = none_among (hidden_faults text) fault hidden (hidden_are_behind text e)

faultless : (found : List Fault) (read made : Game) → unless found read ≡ Some made → (found ≡ []) × (made ≡ read)
faultless [] read made e = (refl, same_Some made read (sym e))
faultless (first ∷ others) read made e = absurd (cc)

either : (found : List Fault) (read : Game) → (unless found read ≡ Some read) ⊎
    ((fault : Fault) × (first_fault found ≡ Some fault))
either [] read = inl refl
either (first ∷ others) read = inr (first, refl)

pub fault_bars_game : FaultBarsGame
fault_bars_game text fault held = game_unless text
    ∙ barred (faults text) (game_read (lines_of text)) (listed text fault held)

pub faultless_is_game : FaultlessIsGame
faultless_is_game text e = game_unless text ∙ ap (λ (found : List Fault). unless found (game_read (lines_of text))) e

pub game_is_faultless : GameIsFaultless
game_is_faultless text read e = faultless (faults text) (game_read (lines_of text)) read (sym (game_unless text) ∙ e)

pub game_or_fault : GameOrFault
game_or_fault text = elim (either (faults text) (game_read (lines_of text))) [
  | inl e ↦ inl (game_read (lines_of text), game_unless text ∙ e)
  | inr found ↦ inr (found.0, inl found.1)
]

pub first_is_fault : FirstIsFault
first_is_fault text fault e = inl e
