-- What bytes do to a session, one after the other.
use Rattle.std.proofs.Common.{◌≡◌, ◌∙◌, ℕ, ◌+◌, ◌<◌, List, [], ◌∷◌, ◌++◌, length, take, get_or, sym, ap, subst}
use Rattle.std.proofs.Common.{append-nil, Some, None}
use Rattle.ps_model.specs.declared.held.Held.{Held}
use Rattle.ps_model.specs.declared.play.Key.{Key}
use Rattle.ps_model.specs.board.Turns.{Script}
use Rattle.ps_model.specs.game.Outputs.{opening_step}
use Rattle.ps_model.specs.session.HeldKeys as keys
use Rattle.ps_model.specs.session.KeySteps.{key_step}
use Rattle.ps_model.specs.session.Sessions.{Session}
use Rattle.ps_laws.specs.Fronts.{whole_front}
use Rattle.ps_laws.proofs.keys.Fronts.{whole_front-is}
use Rattle.ps_laws.proofs.keys.KeysInPieces.{read_byte_by_byte}
use Rattle.ps_laws.proofs.sessions.SessionSteps.{keys_write, silent_bytes}
use Rattle.ps_run.proofs.Playing.{bytes_to}
use Rattle.lizhakoven.specs.PlayedKeys.{HasRead, HasWritten}

-- a byte that brings no key
pub silent_read :
    (script : Script) (session : Session) (kept : Held) (read : List ℕ) (byte : ℕ) → keys.key_behind kept byte ≡ None →
    HasRead script session kept read → HasRead script session (keys.held_behind kept byte) (read ++ byte ∷ [])
silent_read script session kept read byte none had = record {
  session_is = had.session_is ∙ sym (silent_bytes script read byte kept had.held none).1;
  held = (read_byte_by_byte read byte kept had.held).1;
}

-- a byte that brings a key
pub key_read :
    (script : Script) (session next : Session) (kept : Held) (read : List ℕ) (byte : ℕ) (key : Key) →
    keys.key_behind kept byte ≡ Some key → next ≡ (key_step script session key).session →
    HasRead script session kept read → HasRead script next (keys.held_behind kept byte) (read ++ byte ∷ [])
key_read script session next kept read byte key brings steps had = record {
  session_is = steps ∙ ap (λ (s : Session). (key_step script s key).session) had.session_is
      ∙ sym (keys_write script read byte kept key had.held brings).1;
  held = (read_byte_by_byte read byte kept had.held).1;
}

-- a byte that brings no key writes nothing
pub silent_written :
    (script : Script) (session : Session) (kept : Held) (read : List ℕ) (byte : ℕ) (output : List ℕ) →
    keys.key_behind kept byte ≡ None → HasWritten script session kept read output →
    HasWritten script session (keys.held_behind kept byte) (read ++ byte ∷ []) output
silent_written script session kept read byte output none had = record {
  keyed = silent_read script session kept read byte none had.keyed;
  wrote = had.wrote ∙ sym (silent_bytes script read byte kept had.keyed.held none).0;
}

-- a byte that brings a key writes its text
pub key_written :
    (script : Script) (session next : Session) (kept : Held) (read : List ℕ) (byte : ℕ) (key : Key)
    (output now : List ℕ) → keys.key_behind kept byte ≡ Some key → next ≡ (key_step script session key).session →
    now ≡ output ++ (key_step script session key).text → HasWritten script session kept read output →
    HasWritten script next (keys.held_behind kept byte) (read ++ byte ∷ []) now
key_written script session next kept read byte key output now brings steps text had = record {
  keyed = key_read script session next kept read byte key brings steps had.keyed;
  wrote = text ∙ ap (λ (l : List ℕ). l ++ (key_step script session key).text) had.wrote
      ∙ ap (λ (s : Session). whole_front script read ++ (key_step script s key).text) had.keyed.session_is
      ∙ sym (keys_write script read byte kept key had.keyed.held brings).0;
}

-- the opening alone
pub opened : (script : Script) → whole_front script [] ≡ (opening_step script).text
opened script = whole_front-is script [] ∙ append-nil (opening_step script).text

-- one more byte of several, and what it writes
pub written_more :
    (script own : Script) (session next : Session) (kept left : Held) (bytes : List ℕ) (i : ℕ) (output now : List ℕ) →
    i < length bytes → own ≡ script → HasWritten script session kept (take i bytes) output →
    ((read : List ℕ) → HasWritten own session kept read output →
    HasWritten own next left (read ++ get_or bytes i 0 ∷ []) now) →
    HasWritten script next left (take (i + 1) bytes) now
written_more script own session next kept left bytes i output now within same had goes =
    let there : HasWritten script next left (take i bytes ++ get_or bytes i 0 ∷ []) now =
    subst (λ (s : Script). HasWritten s next left (take i bytes ++ get_or bytes i 0 ∷ []) now) same
    (goes (take i bytes) (subst (λ (s : Script). HasWritten s session kept (take i bytes) output) (sym same) had)) in
    subst (λ (read : List ℕ). HasWritten script next left read now) (sym (bytes_to bytes i within)) there
