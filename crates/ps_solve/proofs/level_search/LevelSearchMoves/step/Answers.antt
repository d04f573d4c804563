use Rattle.std.proofs.Common.{◌≡◌, ◌∙◌, arith, ap, sym, subst, refl}
use Rattle.std.specs.Prelude.{IfOk, Option}
use Rattle.ps_model.specs.board.Turns.{Script}
use Rattle.ps_model.specs.session.Solving.{Spot, next_spot}
use Rattle.ps_search.specs.Steps.{IsStep}
use Rattle.ps_search.specs.declared.moves.Step.{Step}
use Rattle.ps_trial.specs.Desks.{TrialValue}
use Rattle.ps_trial.specs.SilentStarts.{Boards, spot_with}
use Rattle.ps_trial.specs.Told.{pressed_shown, waits_shown}
use Rattle.ps_trial.specs.declared.trial.Pressed.{Pressed}
use Rattle.ps_solve.proofs.Led.{here_is, plays_as_itself}
use Rattle.ps_solve.specs.Searches.{SearchValue, here_of, played_by, script_of}
use Rattle.ps_solve.specs.SpotKeys.{IsAt, IsSpotKey, KeepsKeys, KeyTable, spot_at}
use Rattle.ps_solve.specs.declared.spot_keys.SpotKey.{SpotKey}
use Rattle.ps_solve.proofs.KeyRooms.{spot_key_room}
use Rattle.ps_solve.proofs.Standing.{at_same, begins_same, here_same, same_steps, stands_on, stands_still, step_is}
use Rattle.ps_solve.proofs.Standing.{RowRules, if_ok, on_ok, same_script}
use Rattle.ps_solve.proofs.level_search.LevelSearchMoves.step.Goals as goal

pub invariant_of-self : goal.invariant_of-self
invariant_of-self g c = (
  c.self.invariant.0,
  stands_still c.self.inside.keys c.self.inside.board _ _ c.self.inside.trial.value c.press.new.self
      (c.press.ensures.basis ∙ ap (λ (t : TrialValue). t.basis) c.deref_mut.ensures.value)
      (c.press.ensures.here ∙ ap (λ (t : TrialValue). t.here) c.deref_mut.ensures.value)
      c.self.invariant.1,
)

pub returns-in-Err-clause-next : goal.returns-in-Err-clause-next
returns-in-Err-clause-next g c =
    same_steps (played_by c.args.self.now) _
    (c.press.ensures.script
    ∙ same_script c.deref_mut.result.now c.self.inside.trial.value c.deref_mut-2.result.now c.self.inside.rules.value
    c.deref_mut.ensures.value c.deref_mut-2.ensures.value
    ∙ ap played_by c.self.view_is)

pub returns-in-Err-clause-kept : goal.returns-in-Err-clause-kept
returns-in-Err-clause-kept g c = λ key known.
    subst (λ (s : SearchValue). KeepsKeys s.keys c.self.inside.keys) c.self.view_is
    (λ words restart waits has. (has, refl)) key.board.words key.restart key.waits known

pub step_to-requires : goal.step_to-requires
step_to-requires g c =
    let keys : KeyTable = c.self.inside.keys in
    let key : SpotKey g.row.N = c.self.inside.at.value in
    let at : IsAt keys c.press.new.self key.board.words key.restart =
    at_same keys c.self.inside.trial.value c.press.new.self key.board.words key.restart
    (c.press.ensures.basis ∙ ap (λ (t : TrialValue). t.basis) c.deref_mut.ensures.value)
    (c.press.ensures.here ∙ ap (λ (t : TrialValue). t.here) c.deref_mut.ensures.value) c.self.invariant.1.at in (
      omega arith,
      (
        spot_key_room _ c.self.invariant.0,
        (
          c.self.invariant.0,
          subst (λ (t : TrialValue). IsAt keys t c.deref-2.result.now.board.words c.deref-2.result.now.restart)
              (sym c.deref-3.ensures)
              (subst (λ (own : SpotKey g.row.N). IsAt keys c.press.new.self own.board.words own.restart)
              (sym c.deref-2.ensures) at),
        ),
      ),
    )

pub invariant_of-self-2 : goal.invariant_of-self-2
invariant_of-self-2 g c = (
  c.self.invariant.0,
  stands_on c.self.inside.keys c.self.inside.board _ _ c.step_to.new.keys c.press.new.self c.step_to.ensures.kept
      c.step_to.ensures.own
      (stands_still c.self.inside.keys c.self.inside.board _ _ c.self.inside.trial.value c.press.new.self
      (c.press.ensures.basis ∙ ap (λ (t : TrialValue). t.basis) c.deref_mut.ensures.value)
      (c.press.ensures.here ∙ ap (λ (t : TrialValue). t.here) c.deref_mut.ensures.value)
      c.self.invariant.1),
)

pub returns-clause-led : goal.returns-clause-led
returns-clause-led g c =
    let trial = c.self.inside.trial.value in
    let there : Boards = c.press.new.self.there in
    let pressed : Pressed = c.in-Ok.pressed in
    let script : Script = script_of trial.basis c.self.inside.rules.value.plain c.self.inside.rules.value.late in
    let keys : KeyTable = c.step_to.new.keys in
    let at : SpotKey g.row.N = c.self.inside.at.value in
    let here : Spot = spot_with trial.here (waits_shown at.waits) in
    let is_key : SpotKey g.row.N → Type 0 = λ key. IsSpotKey keys key.board.words key.restart in
    let place : SpotKey g.row.N → Spot = λ key. spot_at keys key.board.words key.restart key.waits in
    let tried : TrialValue = c.deref_mut.result.now in
    let own : RowRules = c.deref_mut-2.result.now in
    let by : Script = script_of tried.basis own.plain own.late in
    let led : next_spot script 0 here c.args.input ≡ pressed_shown pressed here there =
    subst (λ (s : Script). next_spot s 0 here c.args.input ≡ pressed_shown pressed here there)
    (same_script tried trial own c.self.inside.rules.value c.deref_mut.ensures.value c.deref_mut-2.ensures.value)
    (subst (λ (t : TrialValue). next_spot by 0 (spot_with t.here (waits_shown at.waits)) c.args.input
    ≡ pressed_shown pressed (spot_with t.here (waits_shown at.waits)) there) c.deref_mut.ensures.value
    (subst (λ (key : SpotKey g.row.N). next_spot by 0 (spot_with tried.here (waits_shown key.waits)) c.args.input
    ≡ pressed_shown pressed (spot_with tried.here (waits_shown key.waits)) there) c.deref.ensures
    (c.in-Ok.ensures.led by 0 (plays_as_itself by)))) in
    let Tells : Spot → Step (SpotKey g.row.N) → Type 0 =
    λ from step. (came : Option Spot) → came ≡ pressed_shown pressed from there → IsStep is_key place from came step in
    let told : IfOk c.step_to.result (Tells here) =
    subst (λ (boards : Boards). IfOk c.step_to.result (Tells (spot_with boards (waits_shown at.waits))))
    (c.press.ensures.here ∙ ap (λ (t : TrialValue). t.here) c.deref_mut.ensures.value)
    (subst (λ (key : SpotKey g.row.N). IfOk c.step_to.result
    (Tells (spot_with c.press.new.self.here (waits_shown key.waits)))) c.deref-2.ensures
    (subst (λ (t : TrialValue). IfOk c.step_to.result (λ (step : Step (SpotKey g.row.N)). (came : Option Spot)
    → came ≡ pressed_shown pressed (spot_with t.here (waits_shown c.deref-2.result.now.waits)) t.there
    → IsStep is_key place (spot_with t.here (waits_shown c.deref-2.result.now.waits)) came step)) c.deref-3.ensures
    c.step_to.ensures.led)) in
    let same : here_of c.args.self.now ≡ here =
    ap here_of (sym c.self.view_is)
    ∙ here_is c.self.inside.keys trial at.board.words at.restart at.waits c.self.invariant.1.at in
    if_ok (Tells here)
    (λ step. IsStep is_key place (here_of c.args.self.now)
    (next_spot (played_by c.args.self.now) 0 (here_of c.args.self.now) c.args.input) step)
    c.step_to.result
    (λ step tells. step_is is_key place c.args.self.now script here c.args.input step
    (ap played_by (sym c.self.view_is)) same (tells (next_spot script 0 here c.args.input) led))
    told

pub returns-clause-here : goal.returns-clause-here
returns-clause-here g c =
    on_ok c.step_to.result
    (here_same c.args.self.now c.step_to.new.keys _ (ap (λ (s : SearchValue). s.at) c.self.view_is)
    (subst (λ (s : SearchValue). KeepsKeys s.keys c.step_to.new.keys) c.self.view_is c.step_to.ensures.kept)
    (subst (λ (s : SearchValue). IsSpotKey s.keys s.at.words s.at.restart) c.self.view_is
    c.self.invariant.1.at.known))

pub returns-clause-next : goal.returns-clause-next
returns-clause-next g c =
    same_steps (played_by c.args.self.now) _
    (c.press.ensures.script
    ∙ same_script c.deref_mut.result.now c.self.inside.trial.value c.deref_mut-2.result.now c.self.inside.rules.value
    c.deref_mut.ensures.value c.deref_mut-2.ensures.value
    ∙ ap played_by c.self.view_is)

pub returns-clause-begins : goal.returns-clause-begins
returns-clause-begins g c =
    begins_same c.args.self.now c.step_to.new.keys _ (ap (λ (s : SearchValue). s.start) c.self.view_is)
    (subst (λ (s : SearchValue). KeepsKeys s.keys c.step_to.new.keys) c.self.view_is c.step_to.ensures.kept)
    (subst (λ (s : SearchValue). IsSpotKey s.keys s.start.words s.start.restart) c.self.view_is
    c.self.invariant.1.start)

pub returns-clause-kept : goal.returns-clause-kept
returns-clause-kept g c = λ key known.
    subst (λ (s : SearchValue). KeepsKeys s.keys c.step_to.new.keys) c.self.view_is c.step_to.ensures.kept
    key.board.words key.restart key.waits known
