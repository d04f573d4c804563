-- What is kept and seen of a game that is played by its compiled rules, and of the game as it is written.
use Rattle.std.proofs.Common.{◌≡◌, ℕ, List, Option, Result, Some, ap, subst, sym}
use Rattle.std.specs.Prelude.{IfOk}
use Rattle.ps_laws.specs.AlikeScripts.{SameRuns}
use Rattle.ps_laws.specs.Fronts.{session_of}
use Rattle.ps_model.specs.board.Turns.{Script, script_at}
use Rattle.ps_model.specs.game.Games.{Game, game}
use Rattle.ps_model.specs.session.LevelLines.{Entry}
use Rattle.ps_rulebook.specs.PlayedGames.{parts_at}
use Rattle.ps_stage.specs.Standings.{SessionParts}
use Rattle.lizhakoven.specs.declared.played_keys.PlayedKeys.{PlayedKeys}
use Rattle.lizhakoven.specs.declared.seeing.Seen.{Seen}
use Rattle.lizhakoven.specs.Places.{IsSeen}
use Rattle.lizhakoven.specs.PlayedKeys.{AreLedToIf, ArePlayed}
use Rattle.lizhakoven.proofs.PlayedOn.{led_alike}
use Rattle.lizhakoven.proofs.SeenPlaces.{seen_there}

-- a script has the runs of a game that is begun at an entry, if that is the game of a text
abbrev pub RunsAsWritten : Script → Game → ℕ → Type 0
RunsAsWritten script read entry = (text : List ℕ) → game text ≡ Some read → SameRuns script (script_at read entry)

-- what the keys of bytes lead to in the game they lead to in the script
pub led_by : (script : Script) (read : Game) (entry : ℕ) (keys : List ℕ) (kept : Option PlayedKeys) →
    RunsAsWritten script read entry → ArePlayed read entry keys kept → (text : List ℕ) → game text ≡ Some read →
    AreLedToIf script keys kept
led_by script read entry keys kept runs had text is =
    led_alike (script_at read entry) script keys kept (λ (bytes : List ℕ). sym ((runs text is).sessions bytes))
    (had text is)

-- what is kept is what they lead to in the game, if it is so in the script
pub kept_as_written : (script : Script) (read : Game) (entry : ℕ) (keys : List ℕ) (kept next : Option PlayedKeys) →
    RunsAsWritten script read entry → (AreLedToIf script keys kept → AreLedToIf script keys next) →
    ArePlayed read entry keys kept → ArePlayed read entry keys next
kept_as_written script read entry keys kept next runs goes had = λ text is.
    led_alike script (script_at read entry) keys next (runs text is).sessions
    (goes (led_by script read entry keys kept runs had text is))

-- where they lead is seen in the game, if it is in the script
pub seen_as_written :
    {E : Type 0} (answer : Result Seen E) (script : Script) (parts : SessionParts) (read : Game) (entry : ℕ)
    (keys before after : List ℕ) (kept : Option PlayedKeys) → parts ≡ parts_at read entry →
    RunsAsWritten script read entry → ArePlayed read entry keys kept →
    (AreLedToIf script keys kept →
    IfOk answer (λ seen. IsSeen parts.entries (session_of script keys) before after seen)) →
    (text : List ℕ) → game text ≡ Some read →
    IfOk answer (λ seen. IsSeen read.entries (session_of (script_at read entry) keys) before after seen)
seen_as_written answer script parts read entry keys before after kept own runs had seen text is =
    seen_there read.entries (session_of script keys) (session_of (script_at read entry) keys) before after answer
    ((runs text is).sessions keys)
    (subst (λ (entries : List Entry). IfOk answer (λ seen.
    IsSeen entries (session_of script keys) before after seen)) (ap (λ (p : SessionParts). p.entries) own)
    (seen (led_by script read entry keys kept runs had text is)))
