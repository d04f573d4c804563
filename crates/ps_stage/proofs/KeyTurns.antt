-- The again turns of a key by the levels that they come to.
use Rattle.std.proofs.Common.{◌≡◌, ◌∙◌, ℕ, suc, List, ◌||◌, Bool, true, false, None, sym, ap}
use Rattle.std.specs.Prelude.{Option}
use Rattle.ps_model.specs.board.Grid.{Grid}
use Rattle.ps_model.specs.board.Programs.{Section}
use Rattle.ps_model.specs.board.Turns as model
use Rattle.ps_model.specs.board.Turns.{Script, turn}
use Rattle.ps_model.specs.session.Sessions.{Play, Step, Playing, after, quietly, seen, shown, with_turn}
use Rattle.ps_model.specs.session.StartSteps.{restarted}
use Rattle.ps_model.specs.session.KeySteps.{key_told, key_turns}
use Rattle.ps_laws.proofs.sessions.SessionSteps.{key_turns-by_outcome}
use Rattle.ps_turn.specs.States.{done_shown, outcome_shown}
use Rattle.ps_turn.specs.declared.outcomes.DoneTurn.{DoneTurn}
use Rattle.ps_turn.specs.declared.outcomes.Turned.{Turned}
use Rattle.ps_turn.specs.declared.outcomes.Turned.TheVariants.{Blocked, Restarted, Done}
use Rattle.ps_stage.specs.declared.levels.Counting.TheVariants.{IfChangedOrWon}
use Rattle.ps_stage.specs.KeysShown.{key_outcome_shown, key_shown}
use Rattle.ps_stage.specs.Standings.{Standing, StageValue, play_of, script_of, script_for, with_done}
use Rattle.ps_stage.specs.StepsShown.{taken}

-- the step of a turn that counts, or else of one that doesn't
abbrev counted : Bool → Step → Step → Step
counted counts taken not_taken = elim counts [ true ↦ taken | false ↦ not_taken ]

-- a done turn is told of the level that it came to, where it counts
counted_taken : (script : Script) (level next : Standing) (history : List Grid) (done : DoneTurn) (g : Grid) (left : ℕ)
    (turns : Play → Step) (counts : Bool) → next ≡ elim counts [ true ↦ with_done level done g | false ↦ level ] →
    counted counts (let then : Play = seen script (with_turn (play_of history level) (done_shown done g)) in
    after (shown script then) (key_told script then (done_shown done g) left turns))
    (quietly (Playing (play_of history level)))
    ≡ counted counts (key_shown script (play_of history next) (done_shown done next.board) left turns)
    (quietly (Playing (play_of history next)))
counted_taken script level next history done g left turns true is =
    ap (λ (l : Standing). key_shown script (play_of history l) (done_shown done l.board) left turns) (sym is)
counted_taken script level next history done g left turns false is =
    ap (λ (l : Standing). quietly (Playing (play_of history l))) (sym is)

key_turned : (script : Script) (level next : Standing) (history : List Grid) (turned : Turned DoneTurn) (g : Grid) (left : ℕ) →
    turn script None level.board ≡ outcome_shown turned g → next ≡ taken IfChangedOrWon turned level g →
    key_turns script (suc left) (play_of history level)
    ≡ key_outcome_shown script (play_of history next) turned left (key_turns script left)
key_turned script level next history (Blocked message) g left ran is =
    key_turns-by_outcome script left (play_of history level) (model.Blocked message) ran
    ∙ ap (λ (l : Standing). quietly (Playing (play_of history l))) (sym is)
key_turned script level next history (Restarted message) g left ran is =
    key_turns-by_outcome script left (play_of history level) (model.Restarted message) ran
    ∙ ap (λ (l : Standing). restarted script (play_of history l) message) (sym is)
key_turned script level next history (Done done) g left ran is =
    key_turns-by_outcome script left (play_of history level) (model.Finished (done_shown done g)) ran
    ∙ counted_taken script level next history done g left (key_turns script left) (done.changed || done.win) is

-- the same, seen from the stage and the level that the turn came to
pub key_told_of : (table_for : List ℕ → Option (List ℕ)) (stage then : StageValue)
    (plain late : Option (List ℕ) → List Section) (level next : Standing) (history : List Grid) (turned : Turned DoneTurn)
    (g : Grid) (left : ℕ) → then ≡ stage →
    outcome_shown turned g ≡ turn (script_for table_for stage.game plain late) None level.board →
    next ≡ taken IfChangedOrWon turned level g →
    after stage.text (key_turns (script_for table_for stage.game plain late) (suc left) (play_of history level))
    ≡ after then.text (key_outcome_shown (script_of then.game (script_for table_for stage.game plain late).plain
    (script_for table_for stage.game plain late).late) (play_of history next) turned left
    (key_turns (script_for table_for stage.game plain late) left))
key_told_of table_for stage then plain late level next history turned g left same ran is =
    let script : Script = script_for table_for stage.game plain late in
    ap (after stage.text) (key_turned script level next history turned g left (sym ran) is)
    ∙ ap (λ (s : StageValue). after s.text (key_outcome_shown (script_of s.game script.plain script.late)
    (play_of history next) turned left (key_turns script left))) (sym same)
