-- What is told of streams of keys that are played again.
use Rattle.std.proofs.Common.{◌≡◌, ℕ, inl, inr, List, [], Option, Bool, true, refl, subst}
use Rattle.std.specs.Prelude.{◌⊎◌, codes}
use Rattle.ps_answers.specs.TellsLevels.{Tells}
use Rattle.ps_devices.specs.Devices.{Grows, Loses}
use Rattle.ps_devices.proofs.Unmoved.{nothing_taken}
use Rattle.ps_records.specs.Forms.{told_in}
use Rattle.ps_records.specs.Replays.{IsReplay, is_won}
use Rattle.ps_records.specs.declared.forms.Form.{Form}
use Rattle.ps_records.specs.declared.replays.Replay.{Replay}
use Rattle.ps_report.specs.declared.details.How.{How}
use Rattle.ps_command.specs.Replayed.{AreLinesOn, AreLinesOnWon, AreLinesTold, IsLineOnGame, TellsOfGivenKeys}
use Rattle.ps_command.specs.Replayed.{TellsOfStreams, TellsOfUnwon, TellsOfWon, form_of, how_refused, names_of}
use Rattle.ps_command.specs.Reported.{TellsReportOn}
use Rattle.ps_command.specs.Searched.{IsRefused}
use Rattle.ps_command.specs.Told.{TellsInOrder}
use Rattle.ps_command.specs.declared.replay_options.ReplayStreams.{ReplayStreams}

module _ (how : Form) (game text name : List ℕ) where
  -- a replay is told
  pub lines_told : (keys : List ℕ) (replay : Replay) (won : Bool) (before after : Option (List ℕ)) →
      IsReplay text keys replay → won ≡ is_won replay → Grows before after (told_in how game name replay) →
      Tells (AreLinesOn how game text won name keys) before after
  lines_told keys replay won before after so is wrote =
      record {
        lines = told_in how game name replay;
        are = record { replay = replay; so = so; is = is; are = refl };
        wrote = wrote;
      }

  -- of some keys
  pub keys_told : (won : Bool) (keys : List ℕ) (before after : Option (List ℕ)) →
      Tells (AreLinesOn how game text won name keys) before after → Tells (AreLinesTold how game text name) before after
  keys_told won keys before after told =
      record {
        lines = told.lines;
        are = inr (record { won = won; keys = keys; are = told.are });
        wrote = told.wrote;
      }

  -- of some keys that win
  pub keys_won : (won : Bool) (keys : List ℕ) (before after : Option (List ℕ)) →
      Tells (AreLinesOn how game text won name keys) before after → won ≡ true →
      Tells (AreLinesOnWon how game text name) before after
  keys_won won keys before after told all =
      record {
        lines = told.lines;
        are = record {
          keys = keys;
          are = subst (λ (b : Bool). AreLinesOn how game text b name keys told.lines) all told.are;
        };
        wrote = told.wrote;
      }

  -- of keys that a reader has given
  pub given_told : (won : Bool) (keys : List ℕ) (had left before after : Option (List ℕ)) → Loses had left keys →
      Tells (AreLinesOn how game text won name keys) before after →
      TellsOfGivenKeys how game text name had left before after
  given_told won keys had left before after given told =
      record { won = won; keys = keys; given = given; told = told }

  -- nothing of a stream that can't be read
  pub unread_told : (before after : Option (List ℕ)) → after ≡ before →
      Tells (AreLinesTold how game text name) before after
  unread_told before after same =
      rw same (record { lines = []; are = inl refl; wrote = nothing_taken before })

-- lines on each stream are told, or what a check tells of a text that is refused
module _ (how : Form) (game text : List ℕ) (names : List (List ℕ)) (before after : Option (List ℕ)) where
  pub streams_told : TellsInOrder (AreLinesTold how game text) names before after →
      TellsOfStreams how game text names before after
  streams_told told = inr told

  pub refusal_told : Tells (IsLineOnGame how game text) before after →
      TellsOfStreams how game text names before after
  refusal_told told = inl told

-- the report of a check is told
pub report_refused : (how : Form) (game text : List ℕ) (by : How) (before after : Option (List ℕ)) →
    by ≡ how_refused how → IsRefused text → TellsReportOn by game text before after →
    Tells (IsLineOnGame how game text) before after
report_refused how game text by before after is refused told =
    let own : TellsReportOn (how_refused how) game text before after =
    subst (λ (h : How). TellsReportOn h game text before after) is told in
    record { lines = own.lines; are = record { refused = refused; is = own.are }; wrote = own.wrote }

-- in the game of this text, which is some text
pub won_of_text : (asked : ReplayStreams) (how : Form) (text : List ℕ) (names : List (List ℕ))
    (had left before after : Option (List ℕ)) → how ≡ form_of asked → names ≡ names_of asked →
    (asked.game.now ≡ codes "-" → Loses had left text) →
    TellsInOrder (AreLinesOnWon how asked.game.now text) names before after → TellsOfWon asked had before after
won_of_text asked how text names had left before after is named given told =
    record {
      text = text;
      left = left;
      given = given;
      told = subst (λ (ns : List (List ℕ)).
          TellsInOrder (AreLinesOnWon (form_of asked) asked.game.now text) ns before after) named
          (subst (λ (f : Form). TellsInOrder (AreLinesOnWon f asked.game.now text) names before after) is told);
    }

pub unwon_of_text : (asked : ReplayStreams) (how : Form) (text : List ℕ) (names : List (List ℕ))
    (had left before after : Option (List ℕ)) → how ≡ form_of asked → names ≡ names_of asked →
    (asked.game.now ≡ codes "-" → Loses had left text) →
    TellsOfStreams how asked.game.now text names before after → TellsOfUnwon asked had before after
unwon_of_text asked how text names had left before after is named given told =
    record {
      text = text;
      left = left;
      given = given;
      told = subst (λ (ns : List (List ℕ)). TellsOfStreams (form_of asked) asked.game.now text ns before after) named
          (subst (λ (f : Form). TellsOfStreams f asked.game.now text names before after) is told);
    }

-- what is told of a stream, whether its keys win, are told or can't be read
pub ruleset streams_read = (keys_won, keys_told, unread_told)
