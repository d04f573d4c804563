-- What a command line asks for, by what clap matched in its words. An accepted line has GAME, or a code to explain. Not
-- said: that `--plain` and `--fresh` change nothing, and for which lines nothing is asked for, as they are refused.
use Rattle.std.specs.Prelude.{◌≡◌, ◌≢◌, ◌||◌, ℕ, Bool, [], true, false, List, Option, Some, None, codes, is_some}
use Rattle.std.specs.List.{list_any}
use Rattle.clap.specs.Walk.{is_empty}
use Rattle.clap.specs.Words.{Row, Text, all_of, first_of}
use Rattle.ps_report.specs.declared.details.Detail.{Detail}
use Rattle.ps_report.specs.declared.details.Detail.TheVariants as detail
use Rattle.ps_report.specs.declared.details.Format.{Format}
use Rattle.ps_report.specs.declared.details.Format.TheVariants as format
use Rattle.ps_report.specs.declared.details.How.{How}
use Rattle.ps_command.specs.Given.{AreFilesIn, AreWordsToSolve, IsCountOr, IsFormOf, IsGameIn, IsLevelOf, IsSizeOf}
use Rattle.ps_command.specs.Given.{form_for, further_in, is_given, is_input, keys_file, text_of, texts_of}
use Rattle.ps_command.specs.declared.after_keys.SolveAfter.{SolveAfter}
use Rattle.ps_command.specs.declared.command.Asked.{Asked}
use Rattle.ps_command.specs.declared.command.Asked.TheVariants as asked
use Rattle.ps_command.specs.declared.command.Play.{Play}
use Rattle.ps_command.specs.declared.command.Show.{Show}
use Rattle.ps_command.specs.declared.command.Solve.{Solve}
use Rattle.ps_command.specs.declared.replay_options.ReplayStreams.{ReplayStreams}

-- tasks ---------------------------------------------------------------------------------------------------------------

-- levels are to be searched
abbrev pub Solves : List Row → Type 0
Solves rows = is_given (codes "solve") rows ≡ true

-- streams of keys are to be replayed
abbrev pub Replays : List Row → Type 0
Replays rows = (is_given (codes "solve") rows ≡ false) × (is_given (codes "replay") rows ≡ true)

-- texts are to be checked
abbrev pub Checks : List Row → Type 0
Checks rows = (is_given (codes "solve") rows ≡ false) × (is_given (codes "replay") rows ≡ false)
    × (is_given (codes "check") rows ≡ true)

-- further files are named, or a form in which something is told
abbrev pub names_more : List Row → Bool
names_more rows =
    is_some (all_of (codes "FURTHER") rows) || is_some (first_of (codes "format") rows)

-- none of these tasks, and GAME alone
pub record HasNoTask (rows : List Row) : Type 0 where
  pub solve : is_given (codes "solve") rows ≡ false
  pub replay : is_given (codes "replay") rows ≡ false
  pub check : is_given (codes "check") rows ≡ false
  pub alone : names_more rows ≡ false

-- a game is to be described
abbrev pub Describes : List Row → Type 0
Describes rows = HasNoTask rows × (is_given (codes "describe") rows ≡ true)

-- a game is to be played, or the output of a run shown
abbrev pub Plays : List Row → Type 0
Plays rows = HasNoTask rows × (is_given (codes "describe") rows ≡ false)

-- games that are played, and outputs that are shown -------------------------------------------------------------------

pub record IsPlay (rows : List Row) (play : Play) : Type 0 where
  pub game : IsGameIn rows play.game.now
  pub task : Plays rows
  pub shown : first_of (codes "show") rows ≡ None
  pub level : IsLevelOf (first_of (codes "level") rows) play.level
  pub keys : text_of play.keys ≡ keys_file (first_of (codes "keys") rows)
  pub size : IsSizeOf (first_of (codes "view") rows) play.size
  pub sizes : text_of play.sizes ≡ first_of (codes "sizes") rows
  pub traced : play.is_traced ≡ is_given (codes "trace") rows

pub record IsShow (rows : List Row) (show : Show) : Type 0 where
  pub game : IsGameIn rows show.game.now
  pub task : Plays rows
  pub output : first_of (codes "show") rows ≡ Some show.output.now
  pub size : IsSizeOf (first_of (codes "view") rows) (Some show.size)
  pub sizes : text_of show.sizes ≡ first_of (codes "sizes") rows

-- checks --------------------------------------------------------------------------------------------------------------

-- below a fault it is told what is to be mended
abbrev pub is_why : Detail → Bool
is_why detail.Why = true
is_why detail.Line = false

-- the form isn't that for people
abbrev pub is_for_programs : Format → Bool
is_for_programs format.Text = false
is_for_programs format.Gnu = true
is_for_programs format.Json = true

-- the check tells all faults or warnings, too, or isn't for people
abbrev pub tells_more : List Row → Format → Bool
tells_more rows form =
    is_given (codes "all") rows || (is_given (codes "warn") rows || is_for_programs form)

-- it tells no more of a text than whether it is a game, or its first fault
pub record TellsFirst (rows : List Row) : Type 0 where
  pub form : Format
  pub format : IsFormOf (first_of (codes "format") rows) form
  pub more : tells_more rows form ≡ false

-- it is of GAME alone
pub record IsOfOne (rows : List Row) (file : Text) : Type 0 where
  pub game : IsGameIn rows file
  pub task : Checks rows
  pub alone : all_of (codes "FURTHER") rows ≡ None

-- it is of GAME and further files
pub record IsOfSeveral (rows : List Row) (files : List Text) : Type 0 where
  pub task : Checks rows
  pub further : is_some (all_of (codes "FURTHER") rows) ≡ true
  pub are : AreFilesIn rows (further_in rows) files

-- of how many lines a fault is told: of one, unless all faults are asked for
abbrev pub IsMost : List Row → Bool → ℕ → Type 0
IsMost rows true most = IsCountOr 100 (first_of (codes "limit") rows) most
IsMost rows false most = most ≡ 1

-- how a check tells that tells more
pub record IsHow (rows : List Row) (is_named : Bool) (how : How) : Type 0 where
  pub format : IsFormOf (first_of (codes "format") rows) how.format
  pub more : tells_more rows how.format ≡ true
  pub named : how.is_named ≡ is_named
  pub why : is_why how.detail ≡ is_given (codes "why") rows
  pub most : IsMost rows (is_given (codes "all") rows) how.most
  pub counts : how.counts ≡ is_given (codes "all") rows
  pub warns : how.warns ≡ is_given (codes "warn") rows
  pub strict : how.strict ≡ is_given (codes "strict") rows

-- searches and replays ------------------------------------------------------------------------------------------------

-- what is said of a search: the level and further files, how many states are kept, the form, and the file that ends it
pub record IsSearch (rows : List Row) (level : Option ℕ) (further : List Text) (limit : ℕ) (is_data : Bool)
    (stop_file : Option Text) : Type 0 where
  pub given : Option ℕ
  pub option : IsLevelOf (first_of (codes "level") rows) given
  pub words : AreWordsToSolve given (further_in rows) level further
  pub states : IsCountOr 1000000 (first_of (codes "states") rows) limit
  pub format : IsFormOf (first_of (codes "format") rows) (form_for is_data)
  pub stop : stop_file ≡ first_of (codes "stop-file") rows

pub record IsSolve (rows : List Row) (solve : Solve) : Type 0 where
  pub task : Solves rows
  pub after : first_of (codes "after") rows ≡ None
  pub further : List Text
  pub search : IsSearch rows solve.level further solve.limit solve.is_data (text_of solve.stop_file)
  pub files : AreFilesIn rows further (texts_of solve.paths.items)

pub record IsSolveAfter (rows : List Row) (solve : SolveAfter) : Type 0 where
  pub task : Solves rows
  pub game : IsGameIn rows solve.game.now
  pub keys : first_of (codes "after") rows ≡ Some solve.keys.now
  pub one_input : solve.game.now ≡ codes "-" → solve.keys.now ≢ codes "-"
  pub search : IsSearch rows solve.level [] solve.limit solve.is_data (text_of solve.stop_file)

pub record IsReplay (rows : List Row) (replay : ReplayStreams) : Type 0 where
  pub task : Replays rows
  pub game : IsGameIn rows replay.game.now
  pub start : first_of (codes "level") rows ≡ None
  pub streams : texts_of replay.streams.items ≡ further_in rows
  pub some : is_empty replay.streams.items ≡ false
  pub one_input : replay.game.now ≡ codes "-" → list_any (λ stream. is_input stream.now) replay.streams.items ≡ false
  pub format : IsFormOf (first_of (codes "format") rows) (form_for replay.is_data)

-- all of them ---------------------------------------------------------------------------------------------------------

abbrev pub IsAsked : List Row → Asked → Type 0
IsAsked rows (asked.Play play) = IsPlay rows play
IsAsked rows (asked.Show show) = IsShow rows show
IsAsked rows (asked.Check file) =
    IsOfOne rows file.now × TellsFirst rows × (is_given (codes "why") rows ≡ false)
IsAsked rows (asked.CheckWhy file) =
    IsOfOne rows file.now × TellsFirst rows × (is_given (codes "why") rows ≡ true)
IsAsked rows (asked.CheckAll files) =
    IsOfSeveral rows (texts_of files.items) × TellsFirst rows × (is_given (codes "why") rows ≡ false)
IsAsked rows (asked.CheckAllWhy files) =
    IsOfSeveral rows (texts_of files.items) × TellsFirst rows × (is_given (codes "why") rows ≡ true)
IsAsked rows (asked.Report file how) = IsOfOne rows file.now × IsHow rows false how
IsAsked rows (asked.Reports files how) = IsOfSeveral rows (texts_of files.items) × IsHow rows true how
IsAsked rows (asked.Explanation code) = first_of (codes "explain") rows ≡ Some code.now
IsAsked rows (asked.Description file) = IsGameIn rows file.now × Describes rows
IsAsked rows (asked.Solve solve) = IsSolve rows solve
IsAsked rows (asked.SolveAfter solve) = IsSolveAfter rows solve
IsAsked rows (asked.Replay replay) = IsReplay rows replay
