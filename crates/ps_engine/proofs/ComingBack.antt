-- Steps that come back. A run takes so many steps from a state: what is left of it is told by how many are left, and by
-- the state.
use Rattle.std.proofs.Common.{◌≡◌, ◌∙◌, ℕ, ◌+◌, ◌*◌, ◌/◌, ◌%◌, inl, inr, zero, suc, true, false, Option, Some}
use Rattle.std.proofs.Common.{sym, ap, arith}
use Rattle.std.proofs.lemmas.Bool.{false≢true}
use Rattle.std.proofs.lemmas.Nat.{div-add-mod'}
use Rattle.std.proofs.lemmas.Option.{same_Some}
use Rattle.ps_model.specs.rules.SourceRules.{Commands}
use Rattle.ps_model.specs.board.Attempts.{State}
use Rattle.ps_model.specs.board.Grid.{Grid}
use Rattle.ps_engine.specs.declared.cycle_finder.CycleFinder.{CycleFinder}
use Rattle.ps_engine.specs.CycleSteps.{AreLeft, HasStepped, IsBack, IsOlder, IsRenewed}

abbrev state_of : Grid → Commands → State
state_of grid queue = record { grid = grid; queue = queue }

module _ {R : Type 0} (run : ℕ → State → R) where
  -- so many steps lead from a state to another: a run with those and some more comes to what it comes to from there
  -- with the rest
  abbrev pub LeadsTo : ℕ → State → State → Type 0
  LeadsTo steps first now = (n : ℕ) → run (steps + n) first ≡ run n now

  -- one step more does
  abbrev pub IsStep : State → State → Type 0
  IsStep now next = (n : ℕ) → run (suc n) now ≡ run n next

  leads_on : (steps : ℕ) (first now next : State) → IsStep now next → LeadsTo steps first now →
      LeadsTo (steps + 1) first next
  leads_on steps first now next step so = λ n.
      let more : (steps + 1) + n ≡ steps + suc n = omega arith in
      ap (λ (k : ℕ). run k first) more ∙ so (suc n) ∙ step n

  -- where steps come back, whole periods of those that are left make no difference
  periods_left_out : (period : ℕ) (state : State) → LeadsTo period state state → (times rest : ℕ) →
      run (times * period + rest) state ≡ run rest state
  periods_left_out period state back zero rest = let none : 0 * period + rest ≡ rest = omega arith in
      ap (λ (k : ℕ). run k state) none
  periods_left_out period state back (suc times) rest =
      let one : suc times * period + rest ≡ period + (times * period + rest) = omega arith in
      ap (λ (k : ℕ). run k state) one ∙ back (times * period + rest) ∙ periods_left_out period state back times rest

  pub rest_of_steps : (period left : ℕ) (state : State) → LeadsTo period state state →
      run (left % period) state ≡ run left state
  rest_of_steps period left state back =
      sym (periods_left_out period state back (left / period) (left % period))
      ∙ ap (λ (k : ℕ). run k state) (div-add-mod' left period)

  -- what a finder keeps, if it keeps a state, leads to a state
  abbrev pub Keeps : CycleFinder → Option Grid → State → Type 0
  Keeps finder kept now = finder.keeps ≡ true → (grid : Grid) → kept ≡ Some grid →
      LeadsTo finder.age (state_of grid finder.queue) now

  older : (before after : CycleFinder) (kept kept_after : Option Grid) (now next : State) → IsStep now next →
      Keeps before kept now → IsOlder before after kept kept_after → Keeps after kept_after next
  older before after kept kept_after now next step so is = λ on grid held.
      rw (is.age, is.queue) (leads_on before.age (state_of grid before.queue) now next step
      (so (sym is.keeps ∙ on) grid (sym is.same_board ∙ held)))

  renewed : (after : CycleFinder) (kept_after : Option Grid) (next : State) →
      IsRenewed after kept_after next.grid next.queue → Keeps after kept_after next
  renewed after kept_after next is = λ on grid held.
      let own : grid ≡ next.grid = same_Some grid next.grid (sym held ∙ is.same_board) in
      rw (is.age, is.same_queue, own) (λ n. let none : 0 + n ≡ n = omega arith in ap (λ (k : ℕ). run k next) none)

  -- a finder that keeps none yet
  pub keeps_first : (before after : CycleFinder) (kept kept_after : Option Grid) (now : State) → before.keeps ≡ false →
      HasStepped before after kept kept_after now.grid now.queue → Keeps after kept_after now
  keeps_first before after kept kept_after now none (inl is) = λ on. absurd (false≢true (sym none ∙ sym is.keeps ∙ on))
  keeps_first before after kept kept_after now none (inr is) = renewed after kept_after now is

  -- and so it does behind one step more
  pub keeps_on : (before after : CycleFinder) (kept kept_after : Option Grid) (now next : State) → IsStep now next →
      Keeps before kept now →
      HasStepped before after kept kept_after next.grid next.queue → Keeps after kept_after next
  keeps_on before after kept kept_after now next step so (inl is) =
      older before after kept kept_after now next step so is
  keeps_on before after kept kept_after now next step so (inr is) = renewed after kept_after next is

  -- a step that has come back
  pub leads_back : (before : CycleFinder) (kept : Option Grid) (now next : State) (period : ℕ) → IsStep now next →
      Keeps before kept now → IsBack before kept next.grid next.queue period →
      LeadsTo period next next
  leads_back before kept now next period step so is =
      let own : LeadsTo before.age next now = rw is.same_queue at (so is.keeps next.grid is.same_board) in
      rw is.steps (leads_on before.age next now next step own)

  -- what a finder answers comes to the same
  pub rest_is : (before : CycleFinder) (kept : Option Grid) (now next : State) (left rest : ℕ) → IsStep now next →
      Keeps before kept now → AreLeft before kept next.grid next.queue left rest → run rest next ≡ run left next
  rest_is before kept now next left rest step so (inl all) = ap (λ (n : ℕ). run n next) all
  rest_is before kept now next left rest step so (inr (period, (back, is))) =
      ap (λ (n : ℕ). run n next) is ∙ rest_of_steps period left next
      (leads_back before kept now next period step so back)

-- a finder that keeps nothing leaves all that is left
pub all_left : (finder : CycleFinder) (kept : Option Grid) (grid : Grid) (queue : Commands) (left rest : ℕ) →
    finder.keeps ≡ false → AreLeft finder kept grid queue left rest → rest ≡ left
all_left finder kept grid queue left rest none (inl all) = all
all_left finder kept grid queue left rest none (inr (period, (back, is))) = absurd (false≢true (sym none ∙ back.keeps))
