use Rattle.std.proofs.Common.{◌≡◌, ◌∙◌, ℕ, ◌*◌, ◌≤◌, None, ap, arith, subst, sym}
use Rattle.ps_model.specs.declared.limits.TheConstants.{SIDE_LIMIT, LAYER_LIMIT}
use Rattle.ps_model.specs.board.Grid.{Grid}
use Rattle.ps_model.specs.board.Movement.{target}
use Rattle.ps_move.specs.Visits.{going_count}
use Rattle.ps_move.specs.Parts.{IsChain}
use Rattle.ps_move.proofs.Steps.{step_fewer, stepped}
use Rattle.ps_move.proofs.Order.{way_some}
use Rattle.ps_move.proofs.Parts.{goes_from, going_count-bound, part_goes, shifted, stuck_behind}
use Rattle.ps_move.proofs.movement.visit.Goals as goal

pub overflow_add-result : goal.overflow_add-result
overflow_add-result g c =
    let old : Grid = g.B.Board.grid c.args.board.now in
    let layer : ℕ = (c.args.layer).0 in
    let to : ℕ = c.in-Some.to in
    let first : ℕ = c.in-Some-first_to_enter.first in
    let least = c.in-Some-first_to_enter.ensures.some in
    let free = way_some old layer (target old layer c.args.cell) to (sym c.in-Some.ensures.value) in
    let goes = goes_from old layer first to c.requires.shape c.requires.place.1 least.place least.aims free.1 in
    let grid = c.shift.ensures.grid ∙ shifted old layer first to goes.0 goes.1 goes.2.stands in
    let same : going_count (g.B.Board.grid c.shift.new.self) ≡ going_count (stepped old layer first goes.0 to) =
    ap going_count grid in
    let less = step_fewer old layer first goes.0 goes.1 to goes.2 in
    let few = c.follow.ensures.chain.fewer in
    let all : going_count old ≤ SIDE_LIMIT * SIDE_LIMIT * LAYER_LIMIT = going_count-bound old c.requires.shape in
    omega (arith, same, less, few, all)

pub returns-clause-part : goal.returns-clause-part
returns-clause-part g c =
    let old : Grid = g.B.Board.grid c.args.board.now in
    let new : Grid = g.B.Board.grid c.follow.new.board in
    let layer : ℕ = (c.args.layer).0 in
    let to : ℕ = c.in-Some.to in
    let first : ℕ = c.in-Some-first_to_enter.first in
    let least = c.in-Some-first_to_enter.ensures.some in
    let free = way_some old layer (target old layer c.args.cell) to (sym c.in-Some.ensures.value) in
    let goes = goes_from old layer first to c.requires.shape c.requires.place.1 least.place least.aims free.1 in
    let grid : g.B.Board.grid c.shift.new.self ≡ stepped old layer first goes.0 to =
    c.shift.ensures.grid ∙ shifted old layer first to goes.0 goes.1 goes.2.stands in
    let chain : IsChain c.follow.result (stepped old layer first goes.0 to) new layer first None =
    subst (λ (x : Grid). IsChain c.follow.result x new layer first None) grid c.follow.ensures.chain in
    part_goes c.follow.result old new layer first goes.0 goes.1 to goes.2 least chain

pub returns-clause-stuck : goal.returns-clause-stuck
returns-clause-stuck g c =
    let old : Grid = g.B.Board.grid c.args.board.now in
    let new : Grid = g.B.Board.grid c.follow.new.board in
    let layer : ℕ = (c.args.layer).0 in
    let to : ℕ = c.in-Some.to in
    let first : ℕ = c.in-Some-first_to_enter.first in
    let least = c.in-Some-first_to_enter.ensures.some in
    let free = way_some old layer (target old layer c.args.cell) to (sym c.in-Some.ensures.value) in
    let goes = goes_from old layer first to c.requires.shape c.requires.place.1 least.place least.aims free.1 in
    let grid : g.B.Board.grid c.shift.new.self ≡ stepped old layer first goes.0 to =
    c.shift.ensures.grid ∙ shifted old layer first to goes.0 goes.1 goes.2.stands in
    let chain : IsChain c.follow.result (stepped old layer first goes.0 to) new layer first None =
    subst (λ (x : Grid). IsChain c.follow.result x new layer first None) grid c.follow.ensures.chain in
    stuck_behind c.follow.result old new layer first goes.0 goes.1 to goes.2 chain c.args.cell
    (sym c.in-Some.ensures.value)
