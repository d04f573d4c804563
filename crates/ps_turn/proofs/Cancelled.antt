-- A turn whose rules have ended at `cancel` has the outcome that it has when all of them are run.
use Rattle.std.proofs.Common.{◌≡◌, ◌∙◌, Bool, true, false, ◌⊎◌, inl, inr, Option, List, ap, refl, sym, subst}
use Rattle.ps_model.specs.declared.play.Input.{Input}
use Rattle.ps_model.specs.rules.SourceRules.{Commands, no_commands}
use Rattle.ps_model.specs.board.Grid.{Grid}
use Rattle.ps_model.specs.board.Attempts.{State}
use Rattle.ps_model.specs.board.Programs.{Section, program_run}
use Rattle.ps_model.specs.board.Movement.{slid}
use Rattle.ps_model.specs.board.Turns.{Script, is_held, moved, outcome_of, played, prepared}
use Rattle.ps_laws.proofs.grids.CancelledRuns.{program_run-cancelled}
use Rattle.ps_model.specs.declared.rules.Extent.{Extent}
use Rattle.ps_model.specs.declared.rules.Extent.TheVariants.{Whole, UntilCancelled}
use Rattle.ps_laws.specs.CancelledRuns.{HasRun}

abbrev cancels : State → Bool
cancels state = state.queue.cancel

-- late rules add nothing to the commands of plain ones that came to `cancel`
late_adds_nothing : (late : List Section) (state : State) → state.queue.cancel ≡ true →
    (program_run late (moved state)).queue ≡ state.queue
late_adds_nothing late state e = program_run-cancelled late (moved state) e

-- both states have `cancel` and the same commands after the late rules, as they had before
both_cancelled : (late : List Section) (all came : State) → came.queue ≡ all.queue → all.queue.cancel ≡ true →
    (came.queue ≡ (program_run late (moved all)).queue) × ((program_run late (moved all)).queue.cancel ≡ true)
both_cancelled late all came same e =
    let left : (program_run late (moved all)).queue ≡ all.queue = late_adds_nothing late all e in
    (same ∙ sym left, ap (λ (q : Commands). q.cancel) left ∙ e)

-- where a run may end at `cancel`, it comes to the commands of all rules
same_commands : (all came : State) → HasRun UntilCancelled all came → came.queue ≡ all.queue
same_commands all came (inl same) = ap (λ (s : State). s.queue) same
same_commands all came (inr ended) = ended.0

-- the plain rules ended at `cancel`, and the late ones aren't run
pub ended_at_cancel : (late : List Section) (all came : State) → HasRun UntilCancelled all came →
    came.queue.cancel ≡ true → HasRun UntilCancelled (program_run late (moved all)) came
ended_at_cancel late all came (inl same) e =
    inr (both_cancelled late all came (ap (λ (s : State). s.queue) same) (sym (ap cancels same) ∙ e))
ended_at_cancel late all came (inr ended) e = inr (both_cancelled late all came ended.0 ended.1)

-- the late rules are run on what the plain ones came to
pub ran_on : (extent : Extent) (late : List Section) (all came last : State) → HasRun extent all came →
    HasRun extent (program_run late (moved came)) last → HasRun extent (program_run late (moved all)) last
ran_on Whole late all came last ran late_ran = late_ran ∙ ap (λ (s : State). program_run late (moved s)) ran
ran_on UntilCancelled late all came last (inl same) (inl late_same) =
    inl (late_same ∙ ap (λ (s : State). program_run late (moved s)) same)
ran_on UntilCancelled late all came last (inl same) (inr late_ended) =
    let after : program_run late (moved came) ≡ program_run late (moved all) =
    ap (λ (s : State). program_run late (moved s)) same in
    inr (late_ended.0 ∙ ap (λ (s : State). s.queue) after, sym (ap cancels after) ∙ late_ended.1)
ran_on UntilCancelled late all came last (inr ended) late_ran =
    let e : came.queue.cancel ≡ true = ap (λ (q : Commands). q.cancel) ended.0 ∙ ended.1 in
    let left : (program_run late (moved came)).queue ≡ came.queue = late_adds_nothing late came e in
    inr (both_cancelled late all last (same_commands (program_run late (moved came)) last late_ran ∙ left ∙ ended.0)
    ended.1)

-- both have `cancel` and the same message, and no move of the Player is asked for
cancelled_outcome : (script : Script) (input : Option Input) (g : Grid) (all came : State) →
    came.queue ≡ all.queue → all.queue.cancel ≡ true →
    ((before after : Grid) → is_held script input before after ≡ false) →
    outcome_of script input g came ≡ outcome_of script input g all
cancelled_outcome script input g all came same e free =
    rw (free g came.grid, free g all.grid, same, e) refl

-- such turns have one outcome
pub same_outcome : (script : Script) (input : Option Input) (g : Grid) (extent : Extent) (all came : State) →
    HasRun extent all came →
    (extent ≡ UntilCancelled → (before after : Grid) → is_held script input before after ≡ false) →
    outcome_of script input g came ≡ outcome_of script input g all
same_outcome script input g Whole all came ran free = ap (outcome_of script input g) ran
same_outcome script input g UntilCancelled all came (inl same) free = ap (outcome_of script input g) same
same_outcome script input g UntilCancelled all came (inr ended) free =
    cancelled_outcome script input g all came ended.0 ended.1 (free refl)

-- the plain rules are run on what was made ready for them, and come to a state
module _ (script : Script) (input : Option Input) (g made : Grid) (empty : Commands) (extent : Extent) (came : State) where
  -- they are the script's, and what was made ready is the grid with the input, and an empty queue
  ready : (plain : List Section) → plain ≡ script.plain → made ≡ prepared script.names input g → empty ≡ no_commands →
      HasRun extent (program_run plain (record { grid = made; queue = empty })) came →
      HasRun extent (program_run script.plain (record { grid = prepared script.names input g; queue = no_commands })) came
  ready plain same is none ran =
      subst (λ (all : State). HasRun extent all came)
      (ap (λ (sections : List Section). program_run sections (record { grid = made; queue = empty })) same
      ∙ ap (λ (grid : Grid). program_run script.plain (record { grid = grid; queue = empty })) is
      ∙ ap (λ (queue : Commands). program_run script.plain (record { grid = prepared script.names input g; queue = queue }))
      none) ran

  -- the turn ends there
  pub turn_ended : (plain : List Section) → plain ≡ script.plain → made ≡ prepared script.names input g →
      empty ≡ no_commands →
      HasRun extent (program_run plain (record { grid = made; queue = empty })) came →
      extent ≡ UntilCancelled → came.queue.cancel ≡ true → HasRun extent (played script input g) came
  turn_ended plain same is none ran ends e =
      let all : State =
      program_run script.plain (record { grid = prepared script.names input g; queue = no_commands }) in
      subst (λ (e : Extent). HasRun e (played script input g) came) (sym ends)
      (ended_at_cancel script.late all came
      (subst (λ (e : Extent). HasRun e all came) ends (ready plain same is none ran)) e)

  -- the movement and the late rules come after it
  pub turn_went_on : (plain : List Section) → plain ≡ script.plain → made ≡ prepared script.names input g →
      empty ≡ no_commands →
      HasRun extent (program_run plain (record { grid = made; queue = empty })) came →
      (late : List Section) (shifted : Grid) (last : State) → late ≡ script.late → shifted ≡ slid came.grid →
      HasRun extent (program_run late (record { grid = shifted; queue = came.queue })) last →
      HasRun extent (played script input g) last
  turn_went_on plain same is none ran late shifted last late_same shifted_is late_ran =
      let all : State =
      program_run script.plain (record { grid = prepared script.names input g; queue = no_commands }) in
      ran_on extent script.late all came last (ready plain same is none ran)
      (subst (λ (state : State). HasRun extent state last)
      (ap (λ (sections : List Section). program_run sections (record { grid = shifted; queue = came.queue })) late_same
      ∙ ap (λ (grid : Grid). program_run script.late (record { grid = grid; queue = came.queue })) shifted_is)
      late_ran)
