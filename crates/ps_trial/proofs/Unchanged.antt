-- A turn that is told not to have changed the board has left it as it was.
use Rattle.std.proofs.Common.{◌≡◌, ◌∙◌, Bool, true, false, Option, None, List, ℕ, sym, ap, refl, if◌then◌else◌}
use Rattle.std.specs.Prelude.{not}
use Rattle.ps_model.specs.declared.play.Input.{Input}
use Rattle.ps_model.specs.board.Attempts.{State}
use Rattle.ps_model.specs.board.Grid.{Grid}
use Rattle.ps_model.specs.board.Turns.{Script, Done, Outcome, Blocked, Restarted, Finished, turn, played}
use Rattle.ps_model.specs.board.Turns.{done_with, is_held, same_cells}
use Rattle.ps_laws.proofs.common.SameThings.{same_grid}
use Rattle.ps_laws.proofs.sessions.SessionSteps.{turns_are_outcomes}

-- the done turn of an outcome, or else another one
abbrev done_of : Done → Outcome → Done
done_of other (Blocked message) = other
done_of other (Restarted message) = other
done_of other (Finished done) = done

-- a finished outcome is that of the last of four cases
is_last : (held cancel restart : Bool) (message : Option (List ℕ)) (own done : Done) →
    (if held then Blocked None else (if cancel then Blocked message else (if restart then Restarted message else Finished own)))
    ≡ Finished done → own ≡ done
is_last true cancel restart message own done e = cc
is_last false true restart message own done e = cc
is_last false false true message own done e = cc
is_last false false false message own done e = ap (done_of own) e

unchanged : (b : Bool) → not b ≡ false → b ≡ true
unchanged true e = refl
unchanged false e = sym e

pub stayed_same : (script : Script) (input : Option Input) (g : Grid) (done : Done) → turn script input g ≡ Finished done →
    done.board.width ≡ g.width → done.board.height ≡ g.height → done.board.layers ≡ g.layers → done.changed ≡ false →
    done.board ≡ g
stayed_same script input g done ran width height layers same =
    let last : State = played script input g in
    let own : Done = done_with script last (not (same_cells g.cells last.grid.cells)) in
    let is : own ≡ done =
    is_last (is_held script input g last.grid) last.queue.cancel last.queue.restart last.queue.message own done
    (sym (turns_are_outcomes script input g) ∙ ran) in
    let board : last.grid ≡ done.board = ap (λ (d : Done). d.board) is in
    let changed : not (same_cells g.cells last.grid.cells) ≡ done.changed = ap (λ (d : Done). d.changed) is in
    let cells : same_cells g.cells done.board.cells ≡ true =
    ap (λ (h : Grid). same_cells g.cells h.cells) (sym board)
    ∙ unchanged (same_cells g.cells last.grid.cells) (changed ∙ same) in
    sym (same_grid g done.board (sym width) (sym height) (sym layers) cells)
