-- A session, as C holds it: its game, the entry at which it began, and all its keys since then. Where it is, and what it
-- has written, is what its keys lead to.
use Rattle.std.specs.Prelude.{◌≡◌, ℕ, List, ◌++◌, Some}
use Rattle.ps_laws.specs.Fronts.{session_of, whole_front}
use Rattle.ps_model.specs.board.Turns.{script_at}
use Rattle.ps_model.specs.game.Games.{Game, game}
use Rattle.lizhakoven.specs.declared.seeing.Seen.{Seen}
use Rattle.lizhakoven.specs.Places.{IsSeen}

pub record HeldValue : Type 0 where
  pub read : Game
  pub entry : ℕ
  pub keys : List ℕ

-- the session after more keys
abbrev pub with_keys : HeldValue → List ℕ → HeldValue
with_keys held more = record { read = held.read; entry = held.entry; keys = held.keys ++ more }

-- where a session is is seen: where its keys lead in its game, if that is the game of a text
abbrev pub IsAt : HeldValue → List ℕ → List ℕ → Seen → Type 0
IsAt held before after seen = (text : List ℕ) → game text ≡ Some held.read →
    IsSeen held.read.entries (session_of (script_at held.read held.entry) held.keys) before after seen

-- what a session has written: its opening, and the texts of its keys in its game, if that is the game of a text
abbrev pub HasText : HeldValue → List ℕ → Type 0
HasText held wrote = (text : List ℕ) → game text ≡ Some held.read →
    wrote ≡ whole_front (script_at held.read held.entry) held.keys
