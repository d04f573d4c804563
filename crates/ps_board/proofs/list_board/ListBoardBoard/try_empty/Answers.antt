use Rattle.std.proofs.Common.{◌≡◌, ap, List, ◌*◌, ◌∙◌, rules, replicate, refl, ℕ}
use Rattle.std.specs.Simd.{first_chunks}
use Rattle.std.proofs.lemmas.Grind.{common_steps}
use Rattle.ps_model.specs.declared.pieces.Slot.{Slot}
use Rattle.ps_model.specs.declared.pieces.Slot.TheVariants.{Bare}
use Rattle.ps_model.specs.board.Grid.{Grid}
use Rattle.ps_board.proofs.Cells.{first_chunks-replicate}
use Rattle.ps_board.proofs.list_board.ListBoardBoard.try_empty.Goals as goal

pub returns-clause-grid : goal.returns-clause-grid
returns-clause-grid c =
    let n : ℕ = c.args.width * c.args.height in
    let made : c.in_ok-slots.slots.items ≡ replicate (n * c.args.layers) Bare = search (rules, common_steps) in
    ap (λ (cells : List (List Slot)). let g : Grid =
    record { width = c.args.width; height = c.args.height; layers = c.args.layers; cells = cells } in g)
    (ap (λ (xs : List Slot). first_chunks c.args.layers n xs) made
    ∙ first_chunks-replicate c.args.layers n (n * c.args.layers) Bare refl)
