-- Levels that are shown, and what is told behind their frames.
use Rattle.std.proofs.Common.{◌≡◌, ◌∙◌, ℕ, suc, List, ◌++◌, Bool, true, false, None, refl, sym, ap}
use Rattle.std.specs.Prelude.{Option}
use Rattle.std.specs.Option.{option_or}
use Rattle.ps_model.specs.board.Grid.{Grid}
use Rattle.ps_model.specs.board.Programs.{Section}
use Rattle.ps_model.specs.board.Turns as model
use Rattle.ps_model.specs.board.Turns.{Script, turn}
use Rattle.ps_model.specs.session.Sessions.{Play, Step, Playing, after, quietly, seen, shown}
use Rattle.ps_model.specs.session.StartSteps.{start_counted, start_told, start_turns, start_step, started, started_by}
use Rattle.ps_laws.proofs.sessions.SessionSteps.{start_turns-by_outcome, texts_join}
use Rattle.ps_turn.specs.States.{done_shown, outcome_shown}
use Rattle.ps_turn.specs.declared.outcomes.DoneTurn.{DoneTurn}
use Rattle.ps_turn.specs.declared.outcomes.Turned.{Turned}
use Rattle.ps_turn.specs.declared.outcomes.Turned.TheVariants.{Blocked, Restarted, Done}
use Rattle.ps_stage.specs.declared.levels.Counting.TheVariants.{Always, IfChanged}
use Rattle.ps_stage.specs.Standings.{Standing, StageValue, play_of, script_of, script_for, with_done}
use Rattle.ps_stage.specs.StepsShown.{start_shown, start_outcome_shown, taken, message_of, is_again}

-- a level that is shown with the room that is seen, and a step from there
pub shown_first : (script : Script) (play next : Play) (first second : List ℕ) (step : Play → Step) →
    next ≡ seen script play →
    second ≡ first ++ shown script next →
    after first (after (shown script (seen script play)) (step (seen script play))) ≡ after second (step next)
shown_first script play next first second step sees shows =
    texts_join first (shown script (seen script play)) (step (seen script play))
    ∙ ap (λ (p : Play). after (first ++ shown script p) (step p)) (sym sees)
    ∙ ap (λ (text : List ℕ). after text (step next)) (sym shows)

-- a start behind a turn that changed the board
pub start_of : (script : Script) (play : Play) (done : DoneTurn) (left : ℕ) (turns : Play → Step) →
    done.changed ≡ true →
    start_shown script play done left turns
    ≡ after (shown script (seen script play)) (start_told (seen script play) done.message done.again left turns)
start_of script play done left turns e = rw (e, start_shown) refl

-- it is told of the level that the turn came to
start_taken : (script : Script) (level next : Standing) (history : List Grid) (done : DoneTurn) (g : Grid) (left : ℕ)
    (turns : Play → Step) (changed : Bool) →
    done.changed ≡ changed → next ≡ taken IfChanged (Done done) level g →
    start_counted script (play_of history level) (done_shown done g) left turns ≡ start_shown script
    (play_of history next) done left turns
start_taken script level next history done g left turns true e is =
    let same : next ≡ with_done level done g =
    is ∙ ap (λ (b : Bool). elim b [ true ↦ with_done level done g | false ↦ level ]) e in
    let counted : start_counted script (play_of history level) (done_shown done g) left turns ≡ start_shown script
    (play_of history (with_done level done g)) done left turns =
    rw (e, start_counted, start_shown) refl in
    counted ∙ ap (λ (l : Standing). start_shown script (play_of history l) done left turns) (sym same)
start_taken script level next history done g left turns false e is =
    let same : next ≡ level = is ∙ ap (λ (b : Bool). elim b [ true ↦ with_done level done g | false ↦ level ]) e in
    let counted : start_counted script (play_of history level) (done_shown done g) left turns ≡ start_shown script
    (play_of history level) done left turns =
    rw (e, start_counted, start_shown) refl in
    counted ∙ ap (λ (l : Standing). start_shown script (play_of history l) done left turns) (sym same)

-- an again turn of a start, seen from the stage and the level that it came to
start_turned : (script : Script) (level next : Standing) (history : List Grid) (turned : Turned DoneTurn) (g : Grid) (left : ℕ) →
    turn script None level.board ≡ outcome_shown turned g → next ≡ taken IfChanged turned level g →
    start_turns script (suc left) (play_of history level)
    ≡ start_outcome_shown script (play_of history next) turned left (start_turns script left)
start_turned script level next history (Blocked message) g left turned is =
    start_turns-by_outcome script left (play_of history level) (model.Blocked message) turned
    ∙ ap (λ (l : Standing). quietly (Playing (play_of history l))) (sym is)
start_turned script level next history (Restarted message) g left turned is =
    start_turns-by_outcome script left (play_of history level) (model.Restarted message) turned
    ∙ ap (λ (l : Standing). quietly (Playing (play_of history l))) (sym is)
start_turned script level next history (Done done) g left turned is =
    start_turns-by_outcome script left (play_of history level) (model.Finished (done_shown done g)) turned
    ∙ start_taken script level next history done g left (start_turns script left) done.changed refl is

pub start_told_of : (table_for : List ℕ → Option (List ℕ)) (stage then : StageValue)
    (plain late : Option (List ℕ) → List Section) (level next : Standing) (history : List Grid) (turned : Turned DoneTurn)
    (g : Grid) (left : ℕ) → then ≡ stage →
    outcome_shown turned g ≡ turn (script_for table_for stage.game plain late) None level.board →
    next ≡ taken IfChanged turned level g →
    after stage.text (start_turns (script_for table_for stage.game plain late) (suc left) (play_of history level))
    ≡ after then.text (start_outcome_shown (script_of then.game (script_for table_for stage.game plain late).plain
    (script_for table_for stage.game plain late).late) (play_of history next) turned left
    (start_turns (script_for table_for stage.game plain late) left))
start_told_of table_for stage then plain late level next history turned g left same ran is =
    let script : Script = script_for table_for stage.game plain late in
    ap (after stage.text) (start_turned script level next history turned g left (sym ran) is)
    ∙ ap (λ (s : StageValue). after s.text (start_outcome_shown (script_of s.game script.plain script.late)
    (play_of history next) turned left (start_turns script left))) (sym same)

-- a start behind its own turn
start_ran : (script : Script) (level next : Standing) (history : List Grid) (turned : Turned DoneTurn) (g : Grid)
    (message : Option (List ℕ)) → turn script None level.board ≡ outcome_shown turned g →
    next ≡ taken Always turned level g →
    started_by script (play_of history level) message (turn script None level.board)
    ≡ started script (play_of history next) (option_or (message_of turned) message) (is_again turned)
start_ran script level next history (Blocked own) g message ran is =
    ap (started_by script (play_of history level) message) ran
    ∙ ap (λ (l : Standing). started script (play_of history l) (option_or own message) false) (sym is)
start_ran script level next history (Restarted own) g message ran is =
    ap (started_by script (play_of history level) message) ran
    ∙ ap (λ (l : Standing). started script (play_of history l) (option_or own message) false) (sym is)
start_ran script level next history (Done done) g message ran is =
    ap (started_by script (play_of history level) message) ran
    ∙ ap (λ (l : Standing). started script (play_of history l) (option_or done.message message) done.again) (sym is)

start_runs : (script : Script) (play : Play) (message : Option (List ℕ)) →
    script.options.run_rules_on_level_start ≡ true →
    start_step script play message ≡ started_by script play message (turn script None play.board)
start_runs script play message e =
    ap (λ (runs : Bool). elim runs [
      | true ↦ started_by script play message (turn script None play.board)
      | false ↦ started script play message false
    ]) e

-- the same, seen from the stage and the level that the turn came to
pub start_ran_of : (table_for : List ℕ → Option (List ℕ)) (stage then : StageValue)
    (plain late those others : Option (List ℕ) → List Section) (level next : Standing) (history : List Grid)
    (turned : Turned DoneTurn) (g : Grid) (message told : Option (List ℕ)) (again : Bool) →
    stage.game.options.run_rules_on_level_start ≡ true → then ≡ stage → those ≡ plain → others ≡ late →
    outcome_shown turned g ≡ turn (script_for table_for stage.game plain late) None level.board →
    next ≡ taken Always turned level g → told ≡ option_or (message_of turned) message → again ≡ is_again turned →
    after stage.text (start_step (script_for table_for stage.game plain late) (play_of history level) message)
    ≡ after then.text (started (script_for table_for then.game those others) (play_of history next) told again)
start_ran_of table_for stage then plain late those others level next history turned g message told again runs same p l
    ran is first comes =
    let script : Script = script_for table_for stage.game plain late in
    rw (same, p, l, first, comes) (ap (after stage.text) (start_runs script (play_of history level) message runs
    ∙ start_ran script level next history turned g message (sym ran) is))
