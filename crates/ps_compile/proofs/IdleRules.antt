-- Void rules do nothing on their game.
use Rattle.std.proofs.Common.{◌≡◌, ℕ, suc, zero, Bool, true, false, ◌&&◌, ◌||◌, not, Option, Some, None, List, [], ◌∷◌}
use Rattle.std.proofs.Common.{◌++◌, map, refl, sym, subst, ap, ap₂, arith}
use Rattle.std.specs.Prelude.{All, is_some}
use Rattle.std.specs.List.{list_all, list_any, Contains}
use Rattle.std.proofs.lemmas.Bool.{and_parts, not-true}
use Rattle.ps_model.specs.names.Names.{Names}
use Rattle.ps_model.specs.board.Places.{cells_in}
use Rattle.ps_model.specs.board.Attempts.{Result, Rewritten, all_applied, combinations_on}
use Rattle.ps_model.specs.rules.SourceRules.{Commands, no_commands}
use Rattle.ps_model.specs.meaning.RuleMeanings.{CellMeaning, RuleMeaning}
use Rattle.ps_model.specs.meaning.Compiled.{CompiledCell, CompiledRule, meaning_of_cell, meaning_of_rule}
use Rattle.ps_laws.specs.IdleRules.{IsIdle, LeavesAll}
use Rattle.ps_laws.proofs.common.Everywhere.{All-mapped}
use Rattle.ps_laws.proofs.alike.IdleRules.{idle-fitting_none, idle-leaving_all, queue-left}
use Rattle.ps_program.proofs.FittingMasks.{Sought, found-in, all-true}
use Rattle.ps_compile.specs.IdleRules.{is_void_cell, leaves_what_fits, asks, has_void_cell, leaves_all, is_idle}
use Rattle.ps_compile.proofs.IdleCells.{void-fits, leaving-same}

-- commands ------------------------------------------------------------------------------------------------------------

-- what asks nothing of the turn
quiet : (cancel restart again checkpoint win : Bool) (message : Option (List ℕ)) →
    (cancel || (restart || (again || (checkpoint || (win || is_some message))))) ≡ false →
    (let c : Commands = record {
      cancel = cancel;
      restart = restart;
      again = again;
      checkpoint = checkpoint;
      win =
          win;
      message = message;
    } in c) ≡ no_commands
quiet true restart again checkpoint win message e = absurd (cc)
quiet false true again checkpoint win message e = absurd (cc)
quiet false false true checkpoint win message e = absurd (cc)
quiet false false false true win message e = absurd (cc)
quiet false false false false true message e = absurd (cc)
quiet false false false false false None e = refl
quiet false false false false false (Some text) e = absurd (cc)

quiet-commands : (commands : Commands) → asks commands ≡ false → commands ≡ no_commands
quiet-commands commands e = quiet commands.cancel commands.restart commands.again commands.checkpoint commands.win
    commands.message e

-- rules ---------------------------------------------------------------------------------------------------------------

-- a rule that neither rewrites nor asks
silent-idle : (names : Names) (rule : RuleMeaning) → rule.rewrites ≡ false → rule.commands ≡ no_commands →
    IsIdle names rule
silent-idle names rule still none state shape =
    let found : List (List (List ℕ)) = combinations_on state.grid rule in
    let start : Rewritten = record { grid = state.grid; changed = false } in
    ap₂ (λ (r : Rewritten) (commands : Commands). let result : Result =
    record { state = record { grid = r.grid; queue = commands }; changed = r.changed } in result)
    (ap (λ (does : Bool). elim does [
      | true ↦ all_applied (record rule { rewrites = true }) state.grid found
      | false ↦
          start
    ]) still)
    (queue-left state.queue rule none found)

-- a cell of a part, of a row
Contains-map : {X Y : Type 0} (f : X → Y) (xs : List X) (x : X) → Contains xs x → Contains (map f xs) (f x)
Contains-map f [] x (k, within, e) = absurd (omega (arith, within))
Contains-map f (y ∷ xs) x (zero, within, e) = (0, omega arith, ap f e)
Contains-map f (y ∷ xs) x (suc k, within, e) =
    Contains-behind (f y) (map f xs) (f x) (Contains-map f xs x (k, omega (arith, within), e)) where
      Contains-behind : {Y : Type 0} (y : Y) (ys : List Y) (z : Y) → Contains ys z → Contains (y ∷ ys) z
      Contains-behind y ys z (k, within, e) = (suc k, omega (arith, within), e)

behind : {X : Type 0} (front xs : List X) (x : X) → Contains xs x → Contains (front ++ xs) x
behind [] xs x h = h
behind (y ∷ front) xs x h = one-behind y (front ++ xs) x (behind front xs x h) where
  one-behind : {X : Type 0} (y : X) (xs : List X) (x : X) → Contains xs x → Contains (y ∷ xs) x
  one-behind y xs x (k, within, e) = (suc k, omega (arith, within), e)

before : {X : Type 0} (xs others : List X) (x : X) → Contains xs x → Contains (xs ++ others) x
before [] others x (k, within, e) = absurd (omega (arith, within))
before (y ∷ xs) others x (zero, within, e) = (0, omega arith, e)
before (y ∷ xs) others x (suc k, within, e) = one-behind y (xs ++ others) x
    (before xs others x (k, omega (arith, within), e)) where
      one-behind : {X : Type 0} (y : X) (xs : List X) (x : X) → Contains xs x → Contains (y ∷ xs) x
      one-behind y xs x (k, within, e) = (suc k, omega (arith, within), e)

joined : (row : List (List CellMeaning)) (part : List CellMeaning) (cell : CellMeaning) → Contains row part →
    Contains part cell → Contains (cells_in row) cell
joined [] part cell (k, within, e) h = absurd (omega (arith, within))
joined (first ∷ row) part cell (zero, within, e) h =
    before first (cells_in row) cell (subst (λ (p : List CellMeaning). Contains p cell) (sym e) h)
joined (first ∷ row) part cell (suc k, within, e) h =
    behind first (cells_in row) cell (joined row part cell (k, omega (arith, within), e) h)

-- a rule with a cell that fits nothing
void-idle : (names : Names) (rule : CompiledRule) → has_void_cell names rule ≡ true → IsIdle names (meaning_of_rule rule)
void-idle names rule any = by-row (found-in (list_any (list_any (is_void_cell names))) rule.rows any) where
  by-cell : (row : List (List CompiledCell)) → Contains rule.rows row → (part : List CompiledCell) →
      Contains row part → Sought (is_void_cell names) part → IsIdle names (meaning_of_rule rule)
  by-cell row row_in part part_in (cell, cell_in, void) =
      idle-fitting_none names (meaning_of_rule rule) (meaning_of_cell cell) (
        map (map meaning_of_cell) row,
        Contains-map (map (map meaning_of_cell)) rule.rows row row_in,
        joined (map (map meaning_of_cell) row) (map meaning_of_cell part) (meaning_of_cell cell)
            (Contains-map (map meaning_of_cell) row part part_in) (Contains-map meaning_of_cell part cell cell_in),
      )
      (λ slots of_game. void-fits names cell slots void of_game)

  by-part : (row : List (List CompiledCell)) → Contains rule.rows row → Sought (list_any (is_void_cell names)) row →
      IsIdle names (meaning_of_rule rule)
  by-part row row_in (part, part_in, any) = by-cell row row_in part part_in (found-in (is_void_cell names) part any)

  by-row : Sought (list_any (list_any (is_void_cell names))) rule.rows → IsIdle names (meaning_of_rule rule)
  by-row (row, row_in, any) = by-part row row_in (found-in (list_any (is_void_cell names)) row any)

-- a rule whose cells leave what they fit
leaving-idle : (names : Names) (rule : CompiledRule) → rule.commands ≡ no_commands →
    leaves_all names rule ≡ true → IsIdle names (meaning_of_rule rule)
leaving-idle names rule none all =
    idle-leaving_all names (meaning_of_rule rule) none
    (All-mapped (All (All (LeavesAll names))) (λ row.
    list_all (list_all (leaves_what_fits names)) row ≡ true) (map (map meaning_of_cell)) rule.rows
    (λ row each. All-mapped (All (LeavesAll names)) (λ part. list_all (leaves_what_fits names) part ≡ true)
    (map meaning_of_cell) row
    (λ part every. All-mapped (LeavesAll names) (λ cell. leaves_what_fits names cell ≡ true) meaning_of_cell part
    (λ cell stays slots of_game fits. leaving-same names cell slots stays of_game fits)
    (all-true (leaves_what_fits names) part every))
    (all-true (list_all (leaves_what_fits names)) row each)) (all-true (list_all (list_all (leaves_what_fits names))) rule.rows all))

-- a rule that can do nothing
quiet-idle : (names : Names) (rule : CompiledRule) → rule.commands ≡ no_commands → (rewrites : Bool) →
    rule.rewrites ≡ rewrites → (not rewrites || leaves_all names rule) ≡ true → IsIdle names (meaning_of_rule rule)
quiet-idle names rule none true e h = leaving-idle names rule none h
quiet-idle names rule none false e h = silent-idle names (meaning_of_rule rule) e none

idle-by : (names : Names) (rule : CompiledRule) (void : Bool) → has_void_cell names rule ≡ void →
    (void || (not (asks rule.commands) && (not rule.rewrites || leaves_all names rule))) ≡ true →
    IsIdle names (meaning_of_rule rule)
idle-by names rule true e h = void-idle names rule e
idle-by names rule false e h =
    let parts = and_parts (not (asks rule.commands)) (not rule.rewrites || leaves_all names rule) h in
    quiet-idle names rule (quiet-commands rule.commands (not-true (asks rule.commands) parts.0)) rule.rewrites refl
    parts.1

pub idle-so : (names : Names) (rule : CompiledRule) → is_idle names rule ≡ true → IsIdle names (meaning_of_rule rule)
idle-so names rule e = idle-by names rule (has_void_cell names rule) refl e
