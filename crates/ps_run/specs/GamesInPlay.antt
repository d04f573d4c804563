-- A game in play, as contracts see it: a session, and the game that it is of.
use Rattle.std.specs.Prelude.{◌≡◌, ℕ, false, Some, List, ◌++◌, Result, OnOk, OnErr, IfErr}
use Rattle.ps_model.specs.declared.play.Key.{Key}
use Rattle.ps_model.specs.board.Turns.{Script}
use Rattle.ps_model.specs.session.IgnoredKeys.{is_ignored}
use Rattle.ps_model.specs.session.KeySteps.{key_step}
use Rattle.ps_model.specs.session.Sessions.{Session}
use Rattle.ps_model.specs.session.StartSteps.{enter}
use Rattle.ps_program.specs.declared.program.CompiledSection.{CompiledSection}
use Rattle.ps_stage.specs.OwnBoards.{IsForOthers}
use Rattle.ps_stage.specs.Standings.{SessionParts, script_for}
use Rattle.ps_stage.specs.declared.stops.Stop.{Stop}
use Rattle.ps_session.specs.Left.{IsLeft}
use Rattle.ps_session.specs.OwnBoards.{SessionFits}
use Rattle.ps_rulebook.specs.PlayedGames.{meant_of}

-- a game and the sections that its turns play, and where the player is
pub record GameInPlay : Type 0 where
  pub game : SessionParts
  pub plain : List CompiledSection
  pub late : List CompiledSection
  pub session : Session

-- a game, played by these sections on boards that keep the table of its layers
unfoldable pub script_on : SessionParts → List CompiledSection → List CompiledSection → Script
script_on game plain late = script_for (λ (layers : List ℕ). Some layers) game (meant_of plain) (meant_of late)

-- that of a game in play
abbrev pub script_in : GameInPlay → Script
script_in play = script_on play.game play.plain play.late

-- a game in play has begun an entry: it is where the entry leads, and what the entry writes is added
pub record HasBegun (script : Script) (entry : ℕ) (play : GameInPlay) (before now : List ℕ) : Type 0 where
  pub plays : script_in play ≡ script
  pub session : play.session ≡ (enter script entry).session
  pub text : now ≡ before ++ (enter script entry).text

-- a key is played: the game is where the key leads, and what it writes is added, unless a level begins there that the
-- boards aren't for. Where it stops, the game doesn't ignore it, so that it hadn't ended
pub record IsKeyed {A : Type 0} (old new : GameInPlay) (key : Key) (before now : List ℕ) (result : Result A Stop) :
    Type 0 where
  pub script : script_in new ≡ script_in old
  pub session : OnOk result (new.session ≡ (key_step (script_in old) old.session key).session)
  pub text : OnOk result (now ≡ before ++ (key_step (script_in old) old.session key).text)
  pub left : IfErr result (λ stop. IsLeft (script_in old) stop (key_step (script_in old) old.session key) before now)
  pub elsewhere : IfErr result (IsForOthers old.game)
  pub boards : OnOk result (SessionFits old.game old.session new.session)
  pub heeded : OnErr result (is_ignored (script_in old).options old.session key ≡ false)

-- a key is played to its end: the game is where the key leads, and what it writes is added. Where memory was wanting,
-- the game doesn't ignore it, so that it hadn't ended
pub record IsTurned {A E : Type 0} (old new : GameInPlay) (key : Key) (before now : List ℕ) (result : Result A E) :
    Type 0 where
  pub script : script_in new ≡ script_in old
  pub session : OnOk result (new.session ≡ (key_step (script_in old) old.session key).session)
  pub text : OnOk result (now ≡ before ++ (key_step (script_in old) old.session key).text)
  pub heeded : OnErr result (is_ignored (script_in old).options old.session key ≡ false)
