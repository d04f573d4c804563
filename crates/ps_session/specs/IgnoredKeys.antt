-- What keys do that a session ignores.
use Rattle.std.specs.Prelude.{◌≡◌, true}
use Rattle.ps_model.specs.declared.play.Key.{Key}
use Rattle.ps_model.specs.board.Turns.{Script}
use Rattle.ps_model.specs.session.IgnoredKeys.{is_ignored}
use Rattle.ps_model.specs.session.Sessions.{Session, quietly}
use Rattle.ps_model.specs.session.KeySteps.{key_step}

-- a key that is ignored leaves the session as it is, and writes nothing
abbrev pub IgnoredKeysDoNothing : Type 0
IgnoredKeysDoNothing =
    (script : Script) (session : Session) (key : Key) → is_ignored script.options session key ≡ true →
    key_step script session key ≡ quietly session
