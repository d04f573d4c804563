-- What a terminal has of a game that is played in a view, and of an output that is shown in one.
use Rattle.std.specs.Prelude.{◌≡◌, ◌≢◌, ℕ, Bool, true, false, Option, List, [], codes, is_none}
use Rattle.ps_model.specs.game.Tellings.{ReaderState, WriterState}
use Rattle.ps_devices.specs.Devices.{Grows, IsSpent, Loses}
use Rattle.ps_view.specs.declared.sizes.Size.{Size}
use Rattle.ps_view.specs.Beginnings.{Beginning}
use Rattle.ps_view.specs.Pieces.{Piece, output_of}
use Rattle.ps_view.specs.Shown.{IsShown}
use Rattle.ps_view.specs.Takers.{taker_of}
use Rattle.ps_view.specs.Views.{view_of}
use Rattle.ps_command.specs.Told.{EndsRightly, IsReadText}
use Rattle.ps_command.specs.ViewedGames.{IsToldOf}
use Rattle.ps_command.specs.declared.command.Play.{Play}

-- a view began with what the text's game is known by, with a terminal of this size, and with what the terminal had been
-- handed before; and whether no other size is told is as is said here
pub record BeginsWith (text : List ℕ) (size : Size) (keeps_size : Bool) (before : Option (List ℕ)) (begun : Beginning) :
    Type 0 where
  pub known : IsToldOf text begun.game.players begun.game.heard
  pub sized : begun.size ≡ size
  pub keeps : begun.keeps_size ≡ keeps_size
  pub had : begun.before ≡ before

-- a game that is played ----------------------------------------------------------------------------------------------

-- a text's game was played to an end, with some keys: what the run wrote on a writer that was this one are these pieces.
-- The terminal was handed the view of them, by the sizes that were told before them, and nothing else. Where no other
-- size is told, that is the view of the whole output
pub record EndsOn (level : Option ℕ) (text : List ℕ) (begun : Beginning) (taker : WriterState) (after : Option (List ℕ)) :
    Type 0 where
  pub pieces : List Piece
  pub calls : ℕ
  pub empty_calls : ℕ
  pub ended : EndsRightly level text taker (taker_of pieces false calls empty_calls)
  pub shown : IsShown begun pieces after
  pub whole : begun.keeps_size ≡ true → Grows begun.before after (view_of begun.game begun.size (output_of pieces))

-- the same on a writer that had taken nothing, in a view that began so
pub record EndsInView (level : Option ℕ) (text : List ℕ) (size : Size) (keeps_size : Bool)
    (before after : Option (List ℕ)) : Type 0 where
  pub begun : Beginning
  pub is : BeginsWith text size keeps_size before begun
  pub ended : EndsOn level text begun (taker_of [] false 0 0) after

-- so the game was played that is asked for, in a view of that size
pub record PlaysInView (play : Play) (size : Size) (had : ReaderState) (before after : Option (List ℕ)) : Type 0 where
  pub text : List ℕ
  pub begun : ReaderState
  pub read : IsReadText play.game.now had begun text
  pub ended : EndsInView play.level text size (is_none play.sizes) before after

-- an output that is shown --------------------------------------------------------------------------------------------

-- an output was shown to its end: the terminal was handed the view of these pieces of it, by the sizes that were told
-- before them, and nothing else. Where no other size is told, that is the view of the whole output. If the name of its
-- file is that of standard input, it is all that this had left
pub record ShowsOn (name : List ℕ) (begun : Beginning) (had left after : Option (List ℕ)) : Type 0 where
  pub pieces : List Piece
  pub given : name ≡ codes "-" → Loses had left (output_of pieces)
  pub ended : name ≡ codes "-" → IsSpent left
  pub shown : IsShown begun pieces after
  pub whole : begun.keeps_size ≡ true → Grows begun.before after (view_of begun.game begun.size (output_of pieces))

-- the same in a view that began so
pub record ShowsInView (text name : List ℕ) (size : Size) (keeps_size : Bool) (had left before after : Option (List ℕ)) :
    Type 0 where
  pub begun : Beginning
  pub is : BeginsWith text size keeps_size before begun
  pub ended : ShowsOn name begun had left after

-- so for some text. If the name of its file is that of standard input, it is what that gave first
pub record ShowsOutput (game name : List ℕ) (size : Size) (keeps_size : Bool) (had left before after : Option (List ℕ)) :
    Type 0 where
  pub text : List ℕ
  pub rest : Option (List ℕ)
  pub read : game ≡ codes "-" → Loses had rest text
  pub unread : game ≢ codes "-" → rest ≡ had
  pub ended : ShowsInView text name size keeps_size rest left before after
