-- The levels of a text whose game was read: each number that the game has is that of a level, in which a run begins.
use Rattle.std.proofs.Common.{◌≡◌, ◌≢◌, ◌∙◌, ◌⊎◌, inl, inr, ℕ, ◌<◌, ◌≤◌, Bool, true, false, List, Some, None, Ok, Err, Result, refl}
use Rattle.std.proofs.Common.{subst}
use Rattle.std.proofs.Common.{sym, ap, arith}
use Rattle.std.specs.Prelude.{All, slice_get}
use Rattle.std.proofs.lemmas.Bool.{true≢false}
use Rattle.std.proofs.lemmas.Option.{same_Some}
use Rattle.ps_model.specs.board.Turns.{script_at}
use Rattle.ps_model.specs.game.Games.{Game, game}
use Rattle.ps_model.specs.game.LevelRuns.{is_level_found, level_count, level_entry}
use Rattle.ps_model.specs.game.Outputs.{opening_step}
use Rattle.ps_model.specs.session.LevelLines.{Entry}
use Rattle.ps_model.specs.session.Solving.{spot}
use Rattle.ps_laws.proofs.sessions.LevelNumbers.{found_numbered, lacked_levels_are_beyond}
use Rattle.ps_levels.specs.Sized.{IsSizedEntry}
use Rattle.ps_run.proofs.Rightly.{game_playable, script_found}
use Rattle.ps_answers.specs.SolvedTexts.{HasLevels, HasLevelOf, IsSolvedLevel}
use Rattle.ps_answers.specs.declared.solved.Solved.{Solved}
use Rattle.ps_solve.specs.ReadTexts.{IsGameOf, ReadText}
use Rattle.ps_solve.specs.SolvedLevels.{IsSolvedAt}
use Rattle.ps_solve.specs.declared.solved.NotSearched.{NotSearched}
use Rattle.ps_solve.specs.declared.solved.NotSearched.TheVariants as not_searched
use Rattle.ps_solve.proofs.BegunLevels.{runs_begin_in_levels}

-- numbers -------------------------------------------------------------------------------------------------------------

-- the text has one game
same_count : (text : List ℕ) (read : Game) (levels : ℕ) → game text ≡ Some read → HasLevels text levels →
    level_count read.entries ≡ levels
same_count text read levels is has =
    let same : read ≡ has.read = same_Some read has.read (sym is ∙ has.is) in
    ap (λ (g : Game). level_count g.entries) same ∙ has.counted

not_beyond : (level count levels : ℕ) → 1 ≤ level → level ≤ levels → count ≡ levels →
    (level ≡ 0) ⊎ (count < level) → ⊥
not_beyond level count levels first last same (inl none) = omega (arith, first, none)
not_beyond level count levels first last same (inr beyond) = omega (arith, last, same, beyond)

-- a level that the text's game has stands among its entries
pub level_is_there : (text : List ℕ) (read : Game) (level : ℕ) → game text ≡ Some read → HasLevelOf text level →
    level_entry read.entries level ≢ None
level_is_there text read level is has none =
    not_beyond level (level_count read.entries) has.levels has.first has.last
    (same_count text read has.levels is has.has) (lacked_levels_are_beyond read.entries level none)

-- what was found for a number is a level
pub found_is_level : (read : Game) (level entry : ℕ) → level_entry read.entries level ≡ Some entry →
    is_level_found (slice_get read.entries entry) ≢ false
found_is_level read level entry found none = true≢false (sym (found_numbered read.entries level entry found).0 ∙ none)

-- runs ----------------------------------------------------------------------------------------------------------------

by_test : (read : Game) (entry : ℕ) (found : Bool) → is_level_found (slice_get read.entries entry) ≡ found →
    spot entry (opening_step (script_at read entry)).session ≡ None → found ≡ false
by_test read entry false is none = refl
by_test read entry true is none =
    let at = runs_begin_in_levels (script_at read entry) is in let clash = sym at.1 ∙ none in absurd (cc clash)

-- where a run that begins at an entry isn't in its level, the entry isn't one
pub no_level_there : (read : Game) (entry : ℕ) → spot entry (opening_step (script_at read entry)).session ≡ None →
    is_level_found (slice_get read.entries entry) ≡ false
no_level_there read entry none = by_test read entry (is_level_found (slice_get read.entries entry)) refl none

-- so an answer that there is no level comes only where the entry isn't one
pub no_level_told :
    (read : Game) (entry limit : ℕ) (result : Result Solved NotSearched) →
    IsSolvedAt (script_at read entry) entry (opening_step (script_at read entry)).session limit result →
    result ≡ Err not_searched.NoLevel → is_level_found (slice_get read.entries entry) ≡ false
no_level_told read entry limit (Ok solved) at same = absurd (cc same)
no_level_told read entry limit (Err not_searched.NoLevel) at same = no_level_there read entry at
no_level_told read entry limit (Err not_searched.Memory) at same = absurd (cc same)

-- an answer about the entry that is found for a number is true of the level of that number
pub solved_level :
    (text : List ℕ) (read : Game) (level entry limit : ℕ) (solved : Solved) → game text ≡ Some read →
    level_entry read.entries level ≡ Some entry →
    IsSolvedAt (script_at read entry) entry (opening_step (script_at read entry)).session limit (Ok solved) →
    IsSolvedLevel text level limit solved
solved_level text read level entry limit solved is found told = record {
  script = script_at read entry;
  is = script_found text level entry read is found;
  true_of_it = told.1;
}

-- a game that was read from a text is of the text that is kept
pub game_kept : (text kept : List ℕ) (read : Game) → kept ≡ text → game text ≡ Some read →
    All (IsSizedEntry read.names) read.entries → IsGameOf kept read
game_kept text kept read same is sized = record { is = ap game same ∙ is; playable = game_playable text read is sized }

-- a value with its game ------------------------------------------------------------------------------------------------

module _ (now : ReadText) (text : List ℕ) (read : Game) (entries : List Entry) where
  -- the value is of this text and its game, which has these entries
  abbrev pub Opened : Type 0
  Opened =
      let value : ReadText = record { text = text; read = read } in
      (value ≡ now) × IsGameOf text read × (entries ≡ read.entries)

  pub has_entry : (level : ℕ) → Opened → HasLevelOf now.text level → level_entry entries level ≢ None
  has_entry level opened has none =
      level_is_there text read level opened.1.is
      (subst (λ (t : ReadText). HasLevelOf t.text level) (sym opened.0) has)
      (ap (λ (es : List Entry). level_entry es level) (sym opened.2) ∙ none)

  pub has_answer :
      (level entry limit : ℕ) (solved : Solved) → Opened → Some entry ≡ level_entry entries level →
      ((of : List ℕ) → game of ≡ Some read →
      IsSolvedAt (script_at read entry) entry (opening_step (script_at read entry)).session limit (Ok solved)) →
      IsSolvedLevel now.text level limit solved
  has_answer level entry limit solved opened found told =
      subst (λ (t : ReadText). IsSolvedLevel t.text level limit solved) opened.0
      (solved_level text read level entry limit solved opened.1.is
      (ap (λ (es : List Entry). level_entry es level) (sym opened.2) ∙ sym found) (told text opened.1.is))

  pub has_no_other :
      (level entry : ℕ) → Opened → Some entry ≡ level_entry entries level →
      ((of : List ℕ) → game of ≡ Some read → is_level_found (slice_get read.entries entry) ≡ false) → ⊥
  has_no_other level entry opened found none =
      found_is_level read level entry (ap (λ (es : List Entry). level_entry es level) (sym opened.2) ∙ sym found)
      (none text opened.1.is)
