use Rattle.std.proofs.Common.{◌≡◌, Ok, Err, subst}
use Rattle.ps_model.specs.session.IgnoredKeys.{is_ignored}
use Rattle.ps_run.specs.GamesInPlay.{GameInPlay, IsKeyed, script_in}
use Rattle.ps_run.proofs.Keyed.{keyed_err, keyed_ok, not_ignored}
use Rattle.ps_run.proofs.Scripts.{script_same}
use Rattle.ps_run.proofs.row_play.RowPlay.key.Goals as goal

pub returns-in-Err : goal.returns-in-Err
returns-in-Err g c =
    let lent : GameInPlay = record {
      game = c.self.inside.session.game;
      plain = c.self.inside.rules.plain;
      late =
          c.self.inside.rules.late;
      session = c.self.inside.session.session;
    } in
    let next : GameInPlay = record {
      game = c.key.new.self.game;
      plain = c.key.new.rules.plain;
      late =
          c.key.new.rules.late;
      session = c.key.new.self.session;
    } in
    let same : script_in next ≡ script_in lent =
    script_same lent.game next.game lent.plain lent.late next.plain next.late c.in-Err.ensures.game
    c.in-Err.ensures.plain c.in-Err.ensures.late in
    subst (λ (old : GameInPlay). IsKeyed old next c.args.key c.args.output.now c.key.new.output (Err c.in-Err.stop))
    c.self.view_is
    (keyed_err lent next c.args.key c.args.output.now c.key.new.output c.in-Err.stop same c.in-Err.ensures.left
    c.in-Err.ensures.elsewhere
    (not_ignored (is_ignored lent.game.options lent.session c.args.key) c.in-Err.ensures.ignored))

pub returns : goal.returns
returns g c =
    let lent : GameInPlay = record {
      game = c.self.inside.session.game;
      plain = c.self.inside.rules.plain;
      late =
          c.self.inside.rules.late;
      session = c.self.inside.session.session;
    } in
    let next : GameInPlay = record {
      game = c.key.new.self.game;
      plain = c.key.new.rules.plain;
      late =
          c.key.new.rules.late;
      session = c.key.new.self.session;
    } in
    let same : script_in next ≡ script_in lent =
    script_same lent.game next.game lent.plain lent.late next.plain next.late c.in_default.ensures.game
    c.in_default.ensures.plain c.in_default.ensures.late in
    subst (λ (old : GameInPlay). IsKeyed old next c.args.key c.args.output.now c.key.new.output (Ok tt)) c.self.view_is
    (keyed_ok lent next c.args.key c.args.output.now c.key.new.output tt same c.in_default.ensures.session
    c.in_default.ensures.written c.in_default.ensures.boards)
