use Rattle.std.proofs.Common.{◌≡◌, ◌∙◌, ℕ, true, false, List, refl, sym, ap}
use Rattle.std.proofs.lemmas.Bool.{true≢false}
use Rattle.ps_model.specs.board.Grid.{Grid}
use Rattle.ps_model.specs.board.Turns.{Script}
use Rattle.ps_model.specs.session.KeySteps.{input_taken, key_in_level}
use Rattle.ps_model.specs.session.Sessions.{Play, after}
use Rattle.ps_stage.specs.Standings.{play_of, script_for}
use Rattle.ps_stage.specs.declared.locations.Location.TheVariants.{Playing}
use Rattle.ps_session.specs.Histories.{grids_of}
use Rattle.ps_model.specs.session.IgnoredKeys.{is_ignored_in_level}
use Rattle.ps_session.proofs.Heeded.{moved_by, restarted_by, told_ignored, undone_by}
use Rattle.ps_session.proofs.IgnoredSteps.{in_level}
use Rattle.ps_session.proofs.levels.key_in_level.Goals as goal

pub returns-then-is_ignored_in_level : goal.returns-then-is_ignored_in_level
returns-then-is_ignored_in_level g c =
    let ignored : is_ignored_in_level c.args.stage.now.game.options c.args.key ≡ true =
    told_ignored c.args.stage.now.game c.game.result.now c.options.result c.args.key c.is_ignored_in_level.result true
    c.game.ensures c.options.ensures c.is_ignored_in_level.ensures c.if-is_ignored_in_level.true in
    record {
      game = refl;
      meaning = refl;
      same = refl;
      answers = record {
        came = in_level (script_for g.B.Board.table_for c.args.stage.now.game (g.R.Rules.meant c.args.rules.now.plain)
            (g.R.Rules.meant c.args.rules.now.late)) (play_of (grids_of (g.H.History.boards c.args.history.now))
            c.args.level.now) c.args.key ignored;
        stopped = tt;
        basis = tt;
        fits = tt;
        elsewhere = tt;
        touched = tt;
        ignored = λ e. refl;
      };
    }

pub returns-in_ok-next-in-Move : goal.returns-in_ok-next-in-Move
returns-in_ok-next-in-Move g c =
    let grids : List Grid = grids_of (g.H.History.boards c.args.history.now) in
    let script : Script = script_for g.B.Board.table_for c.args.stage.now.game
    (g.R.Rules.meant c.args.rules.now.plain) (g.R.Rules.meant c.args.rules.now.late) in
    let play : Play = play_of grids c.args.level.now in
    let heeded : is_ignored_in_level c.args.stage.now.game.options c.args.key ≡ false =
    told_ignored c.args.stage.now.game c.game.result.now c.options.result c.args.key c.is_ignored_in_level.result false
    c.game.ensures c.options.ensures c.is_ignored_in_level.ensures c.if-is_ignored_in_level.false in
    record {
      game = c.in_ok-next-in-Move.ensures.game;
      meaning = c.in_ok-next-in-Move.ensures.meaning;
      same = c.in_ok-next-in-Move.ensures.level;
      answers = record {
        came = moved_by script play c.in-Move.input c.args.key c.in-Move.is heeded
            ∙ ap (λ (text : List ℕ). after text (input_taken script play c.in-Move.input)) (sym c.requires.empty)
            ∙ c.in_ok-next-in-Move.ensures.changes.came grids;
        stopped = tt;
        basis = c.in_ok-next-in-Move.ensures.changes.basis;
        fits = c.in_ok-next-in-Move.ensures.changes.fits;
        elsewhere = tt;
        touched = c.in_ok-next-in-Move.ensures.changes.touched;
        ignored = λ e. absurd (true≢false (sym e ∙ heeded));
      };
    }

pub returns-in_ok-next-in-Undo : goal.returns-in_ok-next-in-Undo
returns-in_ok-next-in-Undo g c =
    let grids : List Grid = grids_of (g.H.History.boards c.args.history.now) in
    let script : Script = script_for g.B.Board.table_for c.args.stage.now.game
    (g.R.Rules.meant c.args.rules.now.plain) (g.R.Rules.meant c.args.rules.now.late) in
    let play : Play = play_of grids c.args.level.now in
    let heeded : is_ignored_in_level c.args.stage.now.game.options c.args.key ≡ false =
    told_ignored c.args.stage.now.game c.game.result.now c.options.result c.args.key c.is_ignored_in_level.result false
    c.game.ensures c.options.ensures c.is_ignored_in_level.ensures c.if-is_ignored_in_level.false in
    record {
      game = c.in_ok-next-in-Undo.ensures.game;
      meaning = refl;
      same = c.in_ok-next-in-Undo.ensures.same;
      answers = record {
        came = undone_by script play c.args.key c.in-Undo.is heeded
            ∙ c.in_ok-next-in-Undo.ensures.came script.plain script.late;
        stopped = tt;
        basis = c.in_ok-next-in-Undo.ensures.basis;
        fits = c.in_ok-next-in-Undo.ensures.boards;
        elsewhere = tt;
        touched = c.in_ok-next-in-Undo.ensures.touched;
        ignored = λ e. absurd (true≢false (sym e ∙ heeded));
      };
    }

pub returns-in_ok-next-in-Restart : goal.returns-in_ok-next-in-Restart
returns-in_ok-next-in-Restart g c =
    let grids : List Grid = grids_of (g.H.History.boards c.args.history.now) in
    let script : Script = script_for g.B.Board.table_for c.args.stage.now.game
    (g.R.Rules.meant c.args.rules.now.plain) (g.R.Rules.meant c.args.rules.now.late) in
    let play : Play = play_of grids c.args.level.now in
    let heeded : is_ignored_in_level c.args.stage.now.game.options c.args.key ≡ false =
    told_ignored c.args.stage.now.game c.game.result.now c.options.result c.args.key c.is_ignored_in_level.result false
    c.game.ensures c.options.ensures c.is_ignored_in_level.ensures c.if-is_ignored_in_level.false in
    record {
      game = c.in_ok-next-in-Restart.ensures.game;
      meaning = c.in_ok-next-in-Restart.ensures.meaning;
      same = c.in_ok-next-in-Restart.ensures.same;
      answers = record {
        came = restarted_by script play c.args.key c.in-Restart.is heeded ∙ c.in_ok-next-in-Restart.ensures.came grids;
        stopped = tt;
        basis = c.in_ok-next-in-Restart.ensures.basis;
        fits = c.in_ok-next-in-Restart.ensures.boards;
        elsewhere = tt;
        touched = c.in_ok-next-in-Restart.ensures.touched;
        ignored = λ e. absurd (true≢false (sym e ∙ heeded));
      };
    }

pub returns-in_ok-next-in-Quit : goal.returns-in_ok-next-in-Quit
returns-in_ok-next-in-Quit g c =
    let grids : List Grid = grids_of (g.H.History.boards c.args.history.now) in
    let script : Script = script_for g.B.Board.table_for c.args.stage.now.game
    (g.R.Rules.meant c.args.rules.now.plain) (g.R.Rules.meant c.args.rules.now.late) in
    let play : Play = play_of grids c.args.level.now in
    let heeded : is_ignored_in_level c.args.stage.now.game.options c.args.key ≡ false =
    told_ignored c.args.stage.now.game c.game.result.now c.options.result c.args.key c.is_ignored_in_level.result false
    c.game.ensures c.options.ensures c.is_ignored_in_level.ensures c.if-is_ignored_in_level.false in
    record {
      game = c.in_ok-next-in-Quit.ensures.game;
      meaning = refl;
      same = refl;
      answers = record {
        came = ap (key_in_level script play) c.in-Quit.is
            ∙ c.in_ok-next-in-Quit.ensures.came grids (Playing c.args.level.now);
        stopped = tt;
        basis = c.in_ok-next-in-Quit.ensures.basis _;
        fits = c.in_ok-next-in-Quit.ensures.boards c.args.stage.now.game c.args.level.now.entry;
        elsewhere = tt;
        touched = c.in_ok-next-in-Quit.ensures.touched _;
        ignored = λ e. absurd (true≢false (sym e ∙ heeded));
      };
    }
