-- A turn of a key by the level that a done turn leads to.
use Rattle.std.proofs.Common.{◌≡◌, ◌∙◌, ℕ, List, Option, Some, Bool, true, false, refl, sym, subst, ap}
use Rattle.ps_model.specs.declared.play.Input.{Input}
use Rattle.ps_model.specs.declared.limits.TheConstants.{AGAIN_LIMIT}
use Rattle.ps_model.specs.board.Grid.{Grid}
use Rattle.ps_model.specs.board.Programs.{Section}
use Rattle.ps_model.specs.board.Turns.{Script, Outcome, Finished, turn}
use Rattle.ps_model.specs.session.Sessions.{Play, Step, after, with_turn}
use Rattle.ps_model.specs.session.KeySteps.{all_key_turns, input_taken, key_turns, turn_taken}
use Rattle.ps_model.specs.session.KeySteps.{with_board_in_history_if}
use Rattle.ps_turn.specs.States.{done_shown}
use Rattle.ps_turn.specs.declared.outcomes.DoneTurn.{DoneTurn}
use Rattle.ps_stage.specs.KeysShown.{key_end_step, key_shown}
use Rattle.ps_stage.specs.declared.locations.KeyEnd.{KeyEnd}
use Rattle.ps_stage.specs.Locations.{history_behind, history_change_if}
use Rattle.ps_stage.specs.Standings.{StageValue, Standing, play_of, script_for, with_done}
use Rattle.ps_stage.specs.StepsShown.{IsStopped}
use Rattle.ps_stage.specs.declared.stops.Stop.{Stop}
use Rattle.ps_stage.proofs.Scripts.{same_script}

-- the level of a done turn, with the history as it is then
next_play : (level : Standing) (history : List Grid) (done : DoneTurn) (g : Grid) (changed : Bool) →
    with_turn (with_board_in_history_if changed (play_of history level)) (done_shown done g) ≡ play_of
    (history_behind (history_change_if changed) history level.board) (with_done level done g)
next_play level history done g true = refl
next_play level history done g false = refl

-- a done turn is told of that level
pub done_taken : (script : Script) (level next : Standing) (history : List Grid) (done : DoneTurn) →
    next ≡ with_done level done next.board →
    turn_taken script (play_of history level) (Finished (done_shown done next.board))
    ≡ key_shown script (play_of (history_behind (history_change_if done.changed) history level.board) next)
    (done_shown done next.board) AGAIN_LIMIT (all_key_turns script)
done_taken script level next history done e =
    let behind : List Grid = history_behind (history_change_if done.changed) history level.board in
    let same : with_turn (with_board_in_history_if done.changed (play_of history level)) (done_shown done next.board) ≡
    play_of behind next =
    next_play level history done next.board done.changed ∙ sym (ap (play_of behind) e) in
    ap (λ (p : Play). key_shown script p (done_shown done next.board) AGAIN_LIMIT (all_key_turns script)) same

-- a turn with an input by its outcome, seen from the stage and the level that it came to
pub taken_of : (table_for : List ℕ → Option (List ℕ)) (stage then : StageValue)
    (plain late those others : Option (List ℕ) → List Section) (level next : Standing) (history : List Grid)
    (input : Input) (outcome : Outcome) → then ≡ stage → those ≡ plain → others ≡ late → next ≡ level →
    outcome ≡ turn (script_for table_for stage.game plain late) (Some input) level.board →
    after stage.text (input_taken (script_for table_for stage.game plain late) (play_of history level) input)
    ≡ after then.text (turn_taken (script_for table_for then.game those others) (play_of history next) outcome)
taken_of table_for stage then plain late those others level next history input outcome same p l stays ran =
    rw (same, p, l, stays, ran) refl

-- the again turns of a key that are left, seen from the stage and the level that they came to
pub key_gone_on : (table_for : List ℕ → Option (List ℕ)) (stage lent then : StageValue)
    (plain late those others : Option (List ℕ) → List Section) (level copy next : Standing) (history : List Grid)
    (left : ℕ) (end : KeyEnd) → lent ≡ stage → copy ≡ level → then.game ≡ lent.game → those ≡ plain → others ≡ late →
    after lent.text (key_turns (script_for table_for lent.game plain late) left (play_of history copy))
    ≡ key_end_step (script_for table_for lent.game plain late) end (play_of history next) then.text →
    after stage.text (key_turns (script_for table_for stage.game plain late) left (play_of history level))
    ≡ key_end_step (script_for table_for then.game those others) end (play_of history next) then.text
key_gone_on table_for stage lent then plain late those others level copy next history left end same copied game p l
    comes =
    ap (λ (standing : Standing). after stage.text
    (key_turns (script_for table_for stage.game plain late) left (play_of history standing))) (sym copied)
    ∙ ap (λ (s : StageValue). after s.text
    (key_turns (script_for table_for s.game plain late) left (play_of history copy))) (sym same)
    ∙ comes
    ∙ ap (λ (script : Script). key_end_step script end (play_of history next) then.text)
    (sym (same_script table_for lent.game then.game plain late those others game p l))

-- a step that stopped by a script, and the same step by the same script
pub stopped_as : (first second : Script) (stop : Stop) (x y : Step) (text : List ℕ) → second ≡ first → x ≡ y →
    IsStopped second stop y text →
    IsStopped first stop x text
stopped_as first second stop x y text same e stopped =
    subst (λ (script : Script). IsStopped script stop x text) same
    (subst (λ (step : Step). IsStopped second stop step text) (sym e) stopped)
