use Rattle.std.proofs.Common.{◌≡◌, ◌∙◌, List, None, Some, subst, refl, ap}
use Rattle.ps_model.specs.session.KeySteps.{key_step}
use Rattle.ps_model.specs.session.Sessions.{Step}
use Rattle.ps_board.specs.Histories.{BoardShown}
use Rattle.ps_stage.specs.Locations.{change_shown, location_shown, IsOnBasis}
use Rattle.ps_stage.specs.OwnBoards.{IsForOthers}
use Rattle.ps_session.specs.KeyAnswers.{answer_step, AnswersFrom, AnswersOnBasis}
use Rattle.ps_stage.specs.Standings.{Basis, SessionParts, SessionValue, StageValue, basis_of, script_for}
use Rattle.ps_session.specs.Histories.{AreOnTable, grids_of}
use Rattle.ps_session.proofs.KeyEnds.{error_came, game_of_value, ignored_inside, left_of_value, no_text_come}
use Rattle.ps_session.proofs.KeyEnds.{none_came, same_value, session_come, step_of_value, text_come}
use Rattle.ps_stage.specs.Meanings.{same_late, same_plain}
use Rattle.ps_session.proofs.OwnBoards.{fits_behind, plays_on}
use Rattle.ps_session.proofs.session.Session.key.Goals as goal

pub next_at-found-requires : goal.next_at-found-requires
next_at-found-requires g c = record {
  empty = c.forget_text.ensures.text;
  basis = rw c.forget_text.ensures.game c.self.invariant.0;
  boards = rw c.forget_text.ensures.game c.self.invariant.1.0;
}

pub commit-requires : goal.commit-requires
commit-requires g c = record {
  behind = rw (c.prepare-done.ensures.boards, c.in-Ok-Some.ensures.same) c.self.invariant.1.1;
  touched = rw c.in-Ok-Some.ensures.same
      (subst (AnswersFrom c.self.inside.location) c.in-Ok-Some.field-0-is c.in-Ok-Some.ensures.answers.touched);
  ready = c.in_default.ensures.ready;
  basis = rw (
    c.prepare-done.ensures.game,
    c.in-Ok-Some.ensures.game,
    c.forget_text.ensures.game,
    c.in-Ok-Some.ensures.same,
  ) c.self.invariant.0;
  comes = rw (c.prepare-done.ensures.game, c.in-Ok-Some.ensures.game)
      (subst (AnswersOnBasis (basis_of g.B.Board.table_for c.forget_text.new.self.game.names))
      c.in-Ok-Some.field-0-is c.in-Ok-Some.ensures.answers.basis);
}

pub returns-in-Ok-None : goal.returns-in-Ok-None
returns-in-Ok-None g c =
    let boards : List BoardShown = g.H.History.boards c.self.inside.history in
    let inside : SessionValue = record {
      game = c.self.inside.stage.game;
      session = location_shown (grids_of boards) c.self.inside.location;
    } in
    let step : Step = key_step (script_for g.B.Board.table_for c.args.self.now.game
    (g.R.Rules.meant c.args.rules.now.plain) (g.R.Rules.meant c.args.rules.now.late)) c.args.self.now.session
    c.args.key in
    let is : step ≡ answer_step (grids_of boards) c.self.inside.location None c.next_at-found.new.stage.text =
    step_of_value g.B.Board.table_for (g.R.Rules.meant c.args.rules.now.plain) (g.R.Rules.meant c.args.rules.now.late)
    c.forget_text.new.self.game inside c.args.self.now c.args.key c.forget_text.ensures.game c.self.view_is
    ∙ rw c.in-Ok-None.field-0-is at c.in-Ok-None.ensures.answers.came in
    record {
      game = game_of_value c.next_at-found.new.stage.game c.forget_text.new.self.game inside c.args.self.now
          c.in-Ok-None.ensures.game c.forget_text.ensures.game c.self.view_is;
      phase = c.phase.ensures;
      session = session_come step inside.session _ _ is
          (ap (location_shown (grids_of boards)) c.in-Ok-None.ensures.same);
      written = no_text_come step inside.session c.args.output.now is;
      same = tt;
      left = tt;
      elsewhere = tt;
      boards = plays_on c.args.self.now.game c.args.self.now.session _
          (ap (location_shown (grids_of boards)) c.in-Ok-None.ensures.same
          ∙ ap (λ (value : SessionValue). value.session) c.self.view_is);
      ignored = λ ignored. refl;
      plain = same_plain c.in-Ok-None.ensures.meaning;
      late = same_late c.in-Ok-None.ensures.meaning;
    }

pub returns-in-Err : goal.returns-in-Err
returns-in-Err g c =
    let boards : List BoardShown = g.H.History.boards c.self.inside.history in
    let inside : SessionValue = record {
      game = c.self.inside.stage.game;
      session = location_shown (grids_of boards) c.self.inside.location;
    } in
    let game : c.tell_stop.new.stage.game ≡ c.args.self.now.game =
    game_of_value c.tell_stop.new.stage.game c.forget_text.new.self.game inside c.args.self.now
    (c.tell_stop.ensures.game ∙ c.in-Err.ensures.game) c.forget_text.ensures.game c.self.view_is in
    record {
      game = game;
      phase = tt;
      session = tt;
      written = tt;
      same = same_value c.tell_stop.new.stage.game c.next_at-found.new.location c.self.inside.location boards boards
          inside c.args.self.now refl game c.in-Err.ensures.same refl c.self.view_is;
      left = left_of_value g.B.Board.table_for (g.R.Rules.meant c.args.rules.now.plain)
          (g.R.Rules.meant c.args.rules.now.late) c.forget_text.new.self.game inside c.args.self.now c.args.key
          c.tell_stop.result c.args.output.now c.tell_stop.new.output c.forget_text.ensures.game c.self.view_is
          (c.tell_stop.ensures.left _ _ c.in-Err.ensures.answers.stopped);
      elsewhere = c.tell_stop.ensures.elsewhere c.args.self.now.game
          (subst (λ (parts : SessionParts). IsForOthers parts c.in-Err.stop)
          (c.forget_text.ensures.game ∙ ap (λ (value : SessionValue). value.game) c.self.view_is)
          c.in-Err.ensures.answers.elsewhere);
      boards = tt;
      ignored = λ ignored. error_came _ _ (c.next_at-found.ensures.answers.ignored
          (ignored_inside c.forget_text.new.self.game inside c.args.self.now c.args.key c.forget_text.ensures.game
          c.self.view_is ignored)) c.in-Err.is;
      plain = same_plain c.in-Err.ensures.meaning;
      late = same_late c.in-Err.ensures.meaning;
    }

pub returns-in-Err-done : goal.returns-in-Err-done
returns-in-Err-done g c =
    let boards : List BoardShown = g.H.History.boards c.self.inside.history in
    let inside : SessionValue = record {
      game = c.self.inside.stage.game;
      session = location_shown (grids_of boards) c.self.inside.location;
    } in
    let game : c.give_up.new.stage.game ≡ c.args.self.now.game =
    game_of_value c.give_up.new.stage.game c.forget_text.new.self.game inside c.args.self.now
    (ap (λ (stage : StageValue). stage.game) c.give_up.ensures ∙ c.prepare-done.ensures.game
    ∙ c.in-Ok-Some.ensures.game) c.forget_text.ensures.game c.self.view_is in
    record {
      game = game;
      phase = tt;
      session = tt;
      written = tt;
      same = same_value c.give_up.new.stage.game c.next_at-found.new.location c.self.inside.location
          (g.H.History.boards c.prepare-done.new.history) boards inside c.args.self.now refl game
          c.in-Ok-Some.ensures.same c.prepare-done.ensures.boards c.self.view_is;
      left = c.in-Err-done.ensures.kept;
      elsewhere = tt;
      boards = tt;
      ignored = λ ignored. none_came _ _ (c.in-Ok-Some.ensures.answers.ignored
          (ignored_inside c.forget_text.new.self.game inside c.args.self.now c.args.key c.forget_text.ensures.game
          c.self.view_is ignored)) c.in-Ok-Some.field-0-is;
      plain = same_plain c.in-Ok-Some.ensures.meaning;
      late = same_late c.in-Ok-Some.ensures.meaning;
    }

pub returns : goal.returns
returns g c =
    let boards : List BoardShown = g.H.History.boards c.self.inside.history in
    let inside : SessionValue = record {
      game = c.self.inside.stage.game;
      session = location_shown (grids_of boards) c.self.inside.location;
    } in
    let step : Step = key_step (script_for g.B.Board.table_for c.args.self.now.game
    (g.R.Rules.meant c.args.rules.now.plain) (g.R.Rules.meant c.args.rules.now.late)) c.args.self.now.session
    c.args.key in
    let is : step
    ≡ answer_step (grids_of boards) c.self.inside.location (Some c.in-Ok-Some.next) c.next_at-found.new.stage.text =
    step_of_value g.B.Board.table_for (g.R.Rules.meant c.args.rules.now.plain) (g.R.Rules.meant c.args.rules.now.late)
    c.forget_text.new.self.game inside c.args.self.now c.args.key c.forget_text.ensures.game c.self.view_is
    ∙ rw c.in-Ok-Some.field-0-is at c.in-Ok-Some.ensures.answers.came in
    record {
      game = game_of_value c.commit.new.stage.game c.forget_text.new.self.game inside c.args.self.now
          (ap (λ (stage : StageValue). stage.game) c.commit.ensures.stage ∙ c.prepare-done.ensures.game
          ∙ c.in-Ok-Some.ensures.game) c.forget_text.ensures.game c.self.view_is;
      phase = c.phase-2.ensures;
      session = session_come step
          (change_shown (grids_of boards) c.self.inside.location c.in-Ok-Some.next) _ c.next_at-found.new.stage.text is
          (c.commit.ensures.shown ∙ ap (λ (boards : List BoardShown).
          change_shown (grids_of boards) c.next_at-found.new.location c.in-Ok-Some.next) c.prepare-done.ensures.boards
          ∙ ap (λ location. change_shown (grids_of boards) location c.in-Ok-Some.next) c.in-Ok-Some.ensures.same);
      written = text_come step _ c.next_at-found.new.stage.text c.args.output.now _ is c.in_default.ensures.moved;
      same = tt;
      left = tt;
      elsewhere = tt;
      boards = fits_behind c.args.self.now.game c.forget_text.new.self.game (grids_of boards) c.self.inside.location
          c.in-Ok-Some.field-0 c.in-Ok-Some.next c.args.self.now.session _
          (c.forget_text.ensures.game ∙ ap (λ (value : SessionValue). value.game) c.self.view_is)
          c.in-Ok-Some.field-0-is (ap (λ (value : SessionValue). value.session) c.self.view_is)
          (c.commit.ensures.shown ∙ ap (λ (boards : List BoardShown).
          change_shown (grids_of boards) c.next_at-found.new.location c.in-Ok-Some.next) c.prepare-done.ensures.boards
          ∙ ap (λ location. change_shown (grids_of boards) location c.in-Ok-Some.next) c.in-Ok-Some.ensures.same)
          c.in-Ok-Some.ensures.answers.fits;
      ignored = λ ignored. refl;
      plain = same_plain c.in-Ok-Some.ensures.meaning;
      late = same_late c.in-Ok-Some.ensures.meaning;
    }

pub invariant_of-self-2 : goal.invariant_of-self-2
invariant_of-self-2 g c =
    let basis : Basis = basis_of g.B.Board.table_for c.self.inside.stage.game.names in
    let game : c.commit.new.stage.game ≡ c.self.inside.stage.game =
    ap (λ (stage : StageValue). stage.game) c.commit.ensures.stage ∙ c.prepare-done.ensures.game
    ∙ c.in-Ok-Some.ensures.game ∙ c.forget_text.ensures.game in
    let here : IsOnBasis basis c.next_at-found.new.location = rw c.in-Ok-Some.ensures.same c.self.invariant.0 in
    let answers : AnswersOnBasis basis c.in-Ok-Some.field-0 =
    rw (← c.forget_text.ensures.game) c.in-Ok-Some.ensures.answers.basis in
    let comes : AnswersOnBasis basis (Some c.in-Ok-Some.next) =
    subst (AnswersOnBasis basis) c.in-Ok-Some.field-0-is answers in
    let before : AreOnTable basis.table (g.H.History.boards c.prepare-done.new.history) =
    rw c.prepare-done.ensures.boards c.self.invariant.1.0 in
    rw game (
      c.commit.ensures.location basis here comes,
      (
        c.commit.ensures.boards basis before here,
        c.commit.ensures.behind,
      ),
    )
