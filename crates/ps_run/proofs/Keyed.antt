-- Keys of a game in play.
use Rattle.std.proofs.Common.{◌≡◌, ◌∙◌, ℕ, ◌++◌, List, Bool, true, false, None, refl, sym, subst, ap, Ok, Err}
use Rattle.std.proofs.lemmas.Bool.{true≢false}
use Rattle.ps_model.specs.declared.options.Options.{Options}
use Rattle.ps_model.specs.declared.play.Key.{Key}
use Rattle.ps_model.specs.board.Turns.{Script}
use Rattle.ps_model.specs.game.Outputs.{ending_of}
use Rattle.ps_model.specs.session.KeySteps.{key_step}
use Rattle.ps_model.specs.session.Sessions.{Session, Playing, Waiting, AtMessage, Ended}
use Rattle.ps_stage.specs.OwnBoards.{IsForOthers}
use Rattle.ps_stage.specs.Standings.{script_for}
use Rattle.ps_stage.specs.declared.stops.Stop.{Stop}
use Rattle.ps_model.specs.session.IgnoredKeys.{is_ignored}
use Rattle.ps_session.specs.Left.{IsLeft}
use Rattle.ps_session.specs.OwnBoards.{SessionFits}
use Rattle.ps_rulebook.specs.PlayedGames.{meant_of}
use Rattle.ps_run.specs.GamesInPlay.{GameInPlay, IsKeyed, script_in}
use Rattle.ps_run.proofs.Scripts.{own_table, script_is}

-- the script of a game in play, as a session on boards of rows has it
abbrev pub script_of_rows : GameInPlay → Script
script_of_rows play = script_for own_table play.game (meant_of play.plain) (meant_of play.late)

-- a key that can stop isn't ignored
pub not_ignored : (ignored : Bool) → (ignored ≡ true → false ≡ true) → ignored ≡ false
not_ignored true heeds = absurd (true≢false (sym (heeds refl)))
not_ignored false heeds = refl

-- a session that doesn't ignore a key hasn't ended
pub not_ended : (options : Options) (session : Session) (key : Key) → is_ignored options session key ≡ false →
    ending_of session ≡ None
not_ended options (Playing play) key heeded = refl
not_ended options (Waiting play pending) key heeded = refl
not_ended options (AtMessage entry) key heeded = refl
not_ended options (Ended ending) key heeded = absurd (true≢false heeded)

-- a key that is played
pub keyed_ok : {A : Type 0} (old new : GameInPlay) (key : Key) (before now : List ℕ) (value : A) →
    script_in new ≡ script_in old →
    new.session ≡ (key_step (script_of_rows old) old.session key).session →
    now ≡ before ++ (key_step (script_of_rows old) old.session key).text →
    SessionFits old.game old.session new.session →
    IsKeyed old new key before now (Ok value)
keyed_ok old new key before now value same session text boards =
    let is : script_of_rows old ≡ script_in old = sym (script_is old.game old.plain old.late) in
    record {
      script = same;
      session = session ∙ ap (λ (script : Script). (key_step script old.session key).session) is;
      text = text ∙ ap (λ (script : Script). before ++ (key_step script old.session key).text) is;
      left = tt;
      elsewhere = tt;
      boards = boards;
      heeded = tt;
    }

-- a key that stops
pub keyed_err : {A : Type 0} (old new : GameInPlay) (key : Key) (before now : List ℕ) (stop : Stop) →
    script_in new ≡ script_in old →
    IsLeft (script_of_rows old) stop (key_step (script_of_rows old) old.session key) before now →
    IsForOthers old.game stop →
    is_ignored old.game.options old.session key ≡ false →
    IsKeyed {A = A} old new key before now (Err stop)
keyed_err old new key before now stop same left elsewhere heeded = record {
  script = same;
  session = tt;
  text = tt;
  left = subst (λ (script : Script). IsLeft script stop (key_step script old.session key) before now)
      (sym (script_is old.game old.plain old.late)) left;
  elsewhere = elsewhere;
  boards = tt;
  heeded = subst (λ (script : Script). is_ignored script.options old.session key ≡ false)
      (sym (script_is old.game old.plain old.late)) heeded;
}
