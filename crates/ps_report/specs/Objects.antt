-- The object of JSON on a text. The members of an object are in the order of their names.
use Rattle.std.specs.Prelude.{◌≡◌, ◌+◌, ℕ, nat_le, Bool, true, false, Some, None, List, [], ◌∷◌, ◌++◌, codes, length}
use Rattle.std.specs.Prelude.{take}
use Rattle.std.specs.List.{flat_map}
use Rattle.ps_model.specs.declared.faults.Fault.{Fault}
use Rattle.ps_model.specs.names.Names.{object_count}
use Rattle.ps_model.specs.board.Levels.{Level}
use Rattle.ps_model.specs.session.LevelLines.{Entry, MessageEntry, LevelEntry}
use Rattle.ps_model.specs.game.Games.{Game, game}
use Rattle.ps_check.specs.Checks.{level_count, rule_count}
use Rattle.ps_game.specs.ToldFaults.{told_faults}
use Rattle.ps_report.specs.Codes.{code_of, name_of}
use Rattle.ps_report.specs.Details.{IsToldOn}
use Rattle.ps_report.specs.Pages.{StandFor}
use Rattle.ps_report.specs.Preludes.{Said, said_by}
use Rattle.ps_report.specs.declared.details.How.{How}
use Rattle.ps_report.specs.ToldWarnings.{last_members}
use Rattle.serde_json.specs.Data.{Data, Members, null, boolean, number, unsigned, string, array, object, member}
use Rattle.serde_json.specs.Data.{no_members}
use Rattle.serde_json.specs.View.{items_of}
use Rattle.serde_json.specs.Written.{compact_text}

-- a fault, with its column and what is to be mended
abbrev pub fault_data : Fault → ℕ → List ℕ → Data
fault_data fault column message =
    object (member (codes "code") (string (code_of fault.kind))
    (member (codes "column") (number (unsigned column))
    (member (codes "line") (number (unsigned fault.line))
    (member (codes "message") (string message)
    (member (codes "name") (string (name_of fault.kind)) no_members)))))

-- it tells what a check tells of the fault
pub record IsFaultTold (text : List ℕ) (fault : Fault) (told : List Data) : Type 0 where
  pub column : ℕ
  pub shown : List ℕ
  pub message : List ℕ
  pub is : IsToldOn text fault column shown message
  pub are : told ≡ fault_data fault column message ∷ []

-- how large a level is
abbrev pub level_data : Level → Data
level_data level =
    object (member (codes "columns") (number (unsigned level.width))
    (member (codes "rows") (number (unsigned level.height)) no_members))

-- of an entry, if it is a level
abbrev pub entry_data : Entry → List Data
entry_data (MessageEntry text) = []
entry_data (LevelEntry level) = level_data level ∷ []

-- how large each level of a game is
abbrev pub levels_data : List Entry → List Data
levels_data entries = flat_map entry_data entries

-- how many layers, levels, objects and rules there are
abbrev pub counts_data : ℕ → ℕ → ℕ → ℕ → Data
counts_data layers levels objects rules =
    object (member (codes "layers") (number (unsigned layers))
    (member (codes "levels") (number (unsigned levels))
    (member (codes "objects") (number (unsigned objects))
    (member (codes "rules") (number (unsigned rules)) no_members))))

-- of a game
abbrev pub counts_of : Game → Data
counts_of read =
    counts_data read.names.layer_count (level_count read) (object_count read.names) (rule_count read)

-- the object on a text that says this of itself, with these last members
abbrev pub object_with : Said → Bool → Data → List Data → List ℕ → Data → Bool → Members → Data
object_with said complete counts faults file levels ok last =
    object (member (codes "author") said.author
    (member (codes "complete") (boolean complete)
    (member (codes "counts") counts
    (member (codes "faults") (array (items_of faults))
    (member (codes "file") (string file)
    (member (codes "homepage") said.homepage
    (member (codes "levels") levels
    (member (codes "ok") (boolean ok)
    (member (codes "title") said.title last)))))))))

-- on a text of that name that is this game
unfoldable pub game_data : How → List ℕ → List ℕ → Game → Data
game_data how name text read =
    object_with (said_by text) true (counts_of read) [] name (array (items_of (levels_data read.entries))) true
    (last_members how text)

-- on one with faults of which these are told
unfoldable pub refused_data : How → List ℕ → List ℕ → List Fault → List Data → Data
refused_data how name text told faults =
    object_with (said_by text) (nat_le (length told) how.most) null faults name null false (last_members how text)

-- an object as a line
abbrev pub data_line : Data → List ℕ
data_line told = compact_text told ++ codes "\n"

-- the line on a text with these faults: `how.most` of them are told at most
pub record IsRefusedLine (how : How) (name text : List ℕ) (told : List Fault) (line : List ℕ) : Type 0 where
  pub faults : List Data
  pub each : StandFor (IsFaultTold text) (take how.most told) faults
  pub are : line ≡ data_line (refused_data how name text told faults)

-- the line on a text
abbrev pub IsDataLine : How → List ℕ → List ℕ → List ℕ → Type 0
IsDataLine how name text line = elim (game text) [
  | Some read ↦ line ≡ data_line (game_data how name text read)
  | None ↦ IsRefusedLine how name text (told_faults (how.most + 1) text) line
]
