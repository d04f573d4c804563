use Rattle.std.proofs.Common.{◌≡◌, ◌∙◌, ℕ, false, List, sym, ap}
use Rattle.std.proofs.lemmas.Bool.{true≢false}
use Rattle.ps_model.specs.board.Turns.{Script}
use Rattle.ps_model.specs.session.KeySteps.{gone_on, key_at_level_message}
use Rattle.ps_model.specs.session.Sessions.{Play, Session, after}
use Rattle.ps_stage.specs.Standings.{play_of, script_for}
use Rattle.ps_stage.specs.StepsShown.{came, pending_shown}
use Rattle.ps_stage.specs.declared.locations.Location.TheVariants.{Waiting}
use Rattle.ps_model.specs.session.IgnoredKeys.{is_ignored_at_message}
use Rattle.ps_session.proofs.Dismissed.{changed_at_message, dismissed}
use Rattle.ps_session.proofs.messages.key_at_level_message.Goals as goal

pub returns-in-Quit-clause-answers : goal.returns-in-Quit-clause-answers
returns-in-Quit-clause-answers g c = λ history. record {
  came = ap (key_at_level_message (script_for g.B.Board.table_for c.args.stage.now.game
      (g.R.Rules.meant c.args.rules.now.plain) (g.R.Rules.meant c.args.rules.now.late))
      (play_of history c.args.level.now) (pending_shown c.args.pending)) c.in-Quit.is
      ∙ c.in_ok-next.ensures.came history (Waiting c.args.level.now c.args.pending);
  stopped = tt;
  basis = c.in_ok-next.ensures.basis _;
  fits = c.in_ok-next.ensures.boards c.args.stage.now.game c.args.level.now.entry;
  elsewhere = tt;
  touched = c.in_ok-next.ensures.touched _;
  ignored = λ e. absurd (true≢false (sym e ∙ ap is_ignored_at_message c.in-Quit.is));
}

pub returns : goal.returns
returns g c =
    let script : Script = script_for g.B.Board.table_for c.args.stage.now.game (g.R.Rules.meant c.args.rules.now.plain)
    (g.R.Rules.meant c.args.rules.now.late) in
    let heeded : is_ignored_at_message c.args.key ≡ false = sym c.is_ignored_at_message.ensures
    ∙ c.if-is_ignored_at_message.false in
    record {
      game = c.in_ok-change.ensures.game;
      meaning = c.in_ok-change.ensures.meaning;
      same = c.in_ok-change.ensures.level;
      answers = λ history. record {
        came =
            let play : Play = play_of history c.args.level.now in
            dismissed script play (pending_shown c.args.pending) c.args.key heeded c.in_default.not-Quit
            ∙ ap (λ (text : List ℕ). after text (gone_on script play (pending_shown c.args.pending)))
            (sym c.requires.empty)
            ∙ c.in_ok-change.ensures.changes.came history
            ∙ ap (λ (session : Session). came session c.go_on.new.self.text)
            (sym (changed_at_message history c.args.level.now c.args.pending c.in_ok-change.change));
        stopped = tt;
        basis = c.in_ok-change.ensures.changes.basis;
        fits = c.in_ok-change.ensures.changes.fits;
        elsewhere = tt;
        touched = c.in_ok-change.ensures.changes.touched;
        ignored = λ e. absurd (true≢false (sym e ∙ heeded));
      };
    }
