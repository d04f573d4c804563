use Rattle.std.proofs.Common.{◌≡◌, ◌∙◌, ℕ, List, [], Option, ap, inl, refl, subst, sym}
use Rattle.ps_engine.specs.RulesInRoom.{sections_meaning}
use Rattle.ps_laws.specs.CancelledRuns.{HasRun}
use Rattle.ps_model.specs.declared.rules.Extent.{Extent}
use Rattle.ps_model.specs.declared.rules.Extent.TheVariants.{Whole, UntilCancelled}
use Rattle.ps_model.specs.board.Attempts.{State}
use Rattle.ps_model.specs.board.Grid.{Grid}
use Rattle.ps_model.specs.board.Programs.{Section, program_run}
use Rattle.ps_model.specs.rules.SourceRules.{Commands}
use Rattle.ps_program.specs.declared.program.CompiledSection.{CompiledSection}
use Rattle.ps_turn.specs.States.{queue_shown, state_of}
use Rattle.ps_rulebook.proofs.game_rules.GameRulesRules.run.Goals as goal

-- without a section nothing is run
none_run : (extent : Extent) (sections : List Section) (state : State) → sections ≡ [] →
    HasRun extent (program_run sections state) state
unfolding program_run
none_run Whole sections state none = rw none refl
none_run UntilCancelled sections state none = inl (rw none refl)

pub returns-then-is_empty-clause-ran : goal.returns-then-is_empty-clause-ran
returns-then-is_empty-clause-ran g c =
    let table : Option (List ℕ) = g.B.Board.table c.args.board.now in
    none_run c.args.extent _ _ (ap (sections_meaning table) (sym c.self.view_is ∙ c.is_empty.ensures c.if-is_empty.true))

pub returns-clause-ran : goal.returns-clause-ran
returns-clause-ran g c =
    let table : Option (List ℕ) = g.B.Board.table c.args.board.now in
    let grid : Grid = g.B.Board.grid c.args.board.now in
    let ran : Commands → State = λ queue. program_run (sections_meaning table c.args.self.now) (state_of grid queue) in
    let came : Commands → State = state_of (g.B.Board.grid c.run_lent.new.board) in
    subst (λ (all : State). HasRun c.args.extent all (came (queue_shown c.in_ok-after.after)))
    (ap ran c.lent-during.ensures)
    (subst (HasRun c.args.extent (ran c.lent-during.result)) (sym (ap came c.in_ok-after.ensures))
    c.in_ok-run_lent.ensures.ran)

pub returns-clause-same : goal.returns-clause-same
returns-clause-same g c =
    let meant : List CompiledSection → Option (List ℕ) → List Section =
    λ sections table. sections_meaning table sections in
    ap meant (c.in_ok-run_lent.ensures.same)

pub returns-clause-width : goal.returns-clause-width
returns-clause-width g c = ap (λ (sides : ℕ × ℕ × ℕ). sides.0) c.in_ok-run_lent.ensures.sides

pub returns-clause-height : goal.returns-clause-height
returns-clause-height g c = ap (λ (sides : ℕ × ℕ × ℕ). sides.1) c.in_ok-run_lent.ensures.sides

pub returns-clause-layers : goal.returns-clause-layers
returns-clause-layers g c = ap (λ (sides : ℕ × ℕ × ℕ). sides.2) c.in_ok-run_lent.ensures.sides

pub returns-in_err-after-clause-same : goal.returns-in_err-after-clause-same
returns-in_err-after-clause-same g c =
    let meant : List CompiledSection → Option (List ℕ) → List Section =
    λ sections table. sections_meaning table sections in
    ap meant (c.in_ok-run_lent.ensures.same)
