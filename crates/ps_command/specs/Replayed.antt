-- What is told of streams of keys that are played again.
use Rattle.std.specs.Prelude.{◌≡◌, ◌⊎◌, ℕ, Bool, true, false, nat_lt, Option, List, [], codes, length, map}
use Rattle.ps_answers.specs.TellsLevels.{Tells}
use Rattle.ps_devices.specs.Devices.{Loses}
use Rattle.ps_records.specs.Forms.{told_in}
use Rattle.ps_records.specs.Replays.{IsReplay, is_won}
use Rattle.ps_records.specs.declared.forms.Form.{Form}
use Rattle.ps_records.specs.declared.forms.Form.TheVariants as form
use Rattle.ps_records.specs.declared.replays.Replay.{Replay}
use Rattle.ps_report.specs.Reports.{IsReport}
use Rattle.ps_report.specs.declared.details.Detail.TheVariants as detail
use Rattle.ps_report.specs.declared.details.Format.{Format}
use Rattle.ps_report.specs.declared.details.Format.TheVariants as format
use Rattle.ps_report.specs.declared.details.How.{How}
use Rattle.ps_command.specs.Searched.{IsRefused}
use Rattle.ps_command.specs.Told.{TellsInOrder}
use Rattle.ps_command.specs.declared.replay_options.ReplayStreams.{ReplayStreams}

-- what is asked for ---------------------------------------------------------------------------------------------------

-- in which form replays are told: each line for people has a name where there are several streams
abbrev pub form_of : ReplayStreams → Form
form_of asked = elim asked.is_data [
  | true ↦ form.Object
  | false ↦ elim (nat_lt 1 (length asked.streams.items)) [ true ↦ form.NamedLines | false ↦ form.Lines ]
]

-- the names of the streams
abbrev pub names_of : ReplayStreams → List (List ℕ)
names_of asked = map (λ path. path.now) asked.streams.items

-- a text that is no game is told as a check tells its first fault
abbrev pub how_told : Format → Bool → How
how_told format is_named = record {
  format = format;
  is_named = is_named;
  detail = detail.Line;
  most = 1;
  counts = false;
  warns = false;
  strict = false;
}

abbrev pub how_refused : Form → How
how_refused form.Lines = how_told format.Text false
how_refused form.NamedLines = how_told format.Text true
how_refused form.Object = how_told format.Json false

-- what is told --------------------------------------------------------------------------------------------------------

-- what a check tells of a text that is refused
pub record IsLineOnGame (how : Form) (game text line : List ℕ) : Type 0 where
  pub refused : IsRefused text
  pub is : IsReport (how_refused how) game text line

-- what is told of streams in the game of a text, which a file of some name has
module _ (how : Form) (game text : List ℕ) where
  -- the lines on these keys, which a stream of that name has: they tell a replay of them, which wins or doesn't
  pub record AreLinesOn (won : Bool) (name keys lines : List ℕ) : Type 0 where
    pub replay : Replay
    pub so : IsReplay text keys replay
    pub is : won ≡ is_won replay
    pub are : lines ≡ told_in how game name replay

  -- the lines on some keys, which win
  pub record AreLinesOnWon (name lines : List ℕ) : Type 0 where
    pub keys : List ℕ
    pub are : AreLinesOn true name keys lines

  -- those on some keys
  pub record AreLinesOnSome (name lines : List ℕ) : Type 0 where
    pub won : Bool
    pub keys : List ℕ
    pub are : AreLinesOn won name keys lines

  -- the same, or nothing for a stream that can't be read
  abbrev pub AreLinesTold : List ℕ → List ℕ → Type 0
  AreLinesTold name lines = (lines ≡ []) ⊎ AreLinesOnSome name lines

  -- the lines on keys that a reader has given are told
  pub record TellsOfGivenKeys (name : List ℕ) (had left before after : Option (List ℕ)) : Type 0 where
    pub won : Bool
    pub keys : List ℕ
    pub given : Loses had left keys
    pub told : Tells (AreLinesOn won name keys) before after

  -- lines on each stream are told, in their order; or, of a text that is refused, what a check tells
  abbrev pub TellsOfStreams : List (List ℕ) → Option (List ℕ) → Option (List ℕ) → Type 0
  TellsOfStreams names before after =
      Tells (IsLineOnGame how game text) before after ⊎ TellsInOrder AreLinesTold names before after

-- in the game of one text lines are told on each stream, all of which win; a reader gave that text first, where it is
-- asked for by the name `-`
pub record TellsOfWon (asked : ReplayStreams) (had before after : Option (List ℕ)) : Type 0 where
  pub text : List ℕ
  pub left : Option (List ℕ)
  pub given : asked.game.now ≡ codes "-" → Loses had left text
  pub told : TellsInOrder (AreLinesOnWon (form_of asked) asked.game.now text) (names_of asked) before after

-- the same, where not all win
pub record TellsOfUnwon (asked : ReplayStreams) (had before after : Option (List ℕ)) : Type 0 where
  pub text : List ℕ
  pub left : Option (List ℕ)
  pub given : asked.game.now ≡ codes "-" → Loses had left text
  pub told : TellsOfStreams (form_of asked) asked.game.now text (names_of asked) before after
