use Rattle.std.proofs.Common.{◌≡◌, ◌∙◌, ℕ, List, true, false, refl, sym, ap}
use Rattle.std.proofs.lemmas.Bool.{true≢false}
use Rattle.ps_model.specs.board.Turns.{Script}
use Rattle.ps_model.specs.session.Sessions.{after}
use Rattle.ps_model.specs.session.StartSteps.{enter}
use Rattle.ps_model.specs.session.KeySteps.{key_at_entry}
use Rattle.ps_stage.specs.Standings.{script_for}
use Rattle.ps_stage.specs.declared.locations.Location.TheVariants.{AtMessage}
use Rattle.ps_model.specs.session.IgnoredKeys.{is_ignored_at_message}
use Rattle.ps_session.proofs.Dismissed.{entry_dismissed}
use Rattle.ps_session.proofs.IgnoredSteps.{at_entry}
use Rattle.ps_session.proofs.messages.key_at_entry.Goals as goal

pub returns-then-is_ignored_at_message : goal.returns-then-is_ignored_at_message
returns-then-is_ignored_at_message g c =
    let ignored : is_ignored_at_message c.args.key ≡ true =
    sym c.is_ignored_at_message.ensures ∙ c.if-is_ignored_at_message.true in
    record {
      game = refl;
      meaning = refl;
      answers = λ history. record {
        came = at_entry (script_for g.B.Board.table_for c.args.stage.now.game
            (g.R.Rules.meant c.args.rules.now.plain) (g.R.Rules.meant c.args.rules.now.late)) c.args.entry.now c.args.key
            ignored;
        stopped = tt;
        basis = tt;
        fits = λ before. tt;
        elsewhere = tt;
        touched = tt;
        ignored = λ e. refl;
      };
    }

pub returns-in-Quit-clause-answers : goal.returns-in-Quit-clause-answers
returns-in-Quit-clause-answers g c = λ history. record {
  came = ap (key_at_entry (script_for g.B.Board.table_for c.args.stage.now.game
      (g.R.Rules.meant c.args.rules.now.plain) (g.R.Rules.meant c.args.rules.now.late)) c.args.entry.now) c.in-Quit.is
      ∙ c.in_ok-next.ensures.came history (AtMessage c.args.entry.now);
  stopped = tt;
  basis = c.in_ok-next.ensures.basis _;
  fits = c.in_ok-next.ensures.boards c.args.stage.now.game;
  elsewhere = tt;
  touched = c.in_ok-next.ensures.anew;
  ignored = λ e. absurd (true≢false (sym e ∙ ap is_ignored_at_message c.in-Quit.is));
}

pub returns : goal.returns
returns g c =
    let script : Script = script_for g.B.Board.table_for c.args.stage.now.game (g.R.Rules.meant c.args.rules.now.plain)
    (g.R.Rules.meant c.args.rules.now.late) in
    let heeded : is_ignored_at_message c.args.key ≡ false = sym c.is_ignored_at_message.ensures
    ∙ c.if-is_ignored_at_message.false in
    record {
      game = c.in_ok-location.ensures.game;
      meaning = c.in_ok-location.ensures.meaning;
      answers = λ history. record {
        came = entry_dismissed script c.args.entry.now c.args.key heeded c.in_default.not-Quit
            ∙ ap (enter script) (sym c.next.ensures)
            ∙ ap (λ (text : List ℕ). after text (enter script c.next.result)) (sym c.requires.empty)
            ∙ c.in_ok-location.ensures.came;
        stopped = tt;
        basis = c.in_ok-location.ensures.basis;
        fits = c.in_ok-location.ensures.boards;
        elsewhere = tt;
        touched = refl;
        ignored = λ e. absurd (true≢false (sym e ∙ heeded));
      };
    }
