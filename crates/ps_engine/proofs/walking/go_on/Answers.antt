use Rattle.std.proofs.Common.{◌≡◌, ◌∙◌, ℕ, ◌≤◌, true, Option, List, fold, length, sym, ap, arith, true≢false, ◌<◌}
use Rattle.std.proofs.Common.{subst, refl}
use Rattle.ps_model.specs.board.Grid.{Grid}
use Rattle.ps_model.specs.board.Attempts.{Rewritten, all_fit, applied}
use Rattle.ps_engine.specs.Choices.{Choice, behind, behind_from, choices_of, chosen}
use Rattle.ps_engine.specs.Choosing.{rows_meaning}
use Rattle.ps_engine.proofs.ScratchChanged.{lines_still}
use Rattle.ps_engine.proofs.ScratchForgetting.{comes_to_same, fewer_behind, lines_kept, placed_kept, same_chosen_for}
use Rattle.ps_engine.proofs.Sought.{first_is}
use Rattle.ps_engine.proofs.walking.go_on.Goals as goal

pub returns-in_default-clause-lines : goal.returns-in_default-clause-lines
returns-in_default-clause-lines g c =
    lines_still (g.B.Board.grid c.args.board.now)
    (g.B.Board.table c.args.board.now) c.args.rows.now c.args.scratch.now c.advance.new.scratch
    c.advance.ensures.same c.requires.lines

pub forget_rows-requires-clause-among : goal.forget_rows-requires-clause-among
forget_rows-requires-clause-among g c =
    λ k row row_scratch low is there. (c.in-Some.ensures.started k row row_scratch low is there).among

pub returns-then-sleeps-clause-same : goal.returns-then-sleeps-clause-same
returns-then-sleeps-clause-same g c = λ yes changed.
    let grid : Grid = g.B.Board.grid c.args.board.now in
    let table : Option (List ℕ) = g.B.Board.table c.args.board.now in
    let long : length c.args.rows.now ≤ length c.advance.new.scratch =
    omega (arith, c.requires.long, c.advance.ensures.same.long) in
    let asleep : c.args.sleeps ≡ true = c.if-sleeps.true in
    comes_to_same grid table c.args.rows.now c.advance.new.scratch c.forget_rows.new.scratch c.in-Some.count long
    c.forget_rows.ensures.forgotten c.in-Some.ensures.started c.forget_rows.ensures.left (c.requires.asleep asleep)
    changed
    ∙ ap (λ (left : List (List (List ℕ))). let now : Rewritten = record { grid = grid; changed = changed } in
    fold (applied (rows_meaning table c.args.rows.now)) now left) (sym c.in-Some.ensures.found)

pub returns-then-sleeps-clause-fit : goal.returns-then-sleeps-clause-fit
returns-then-sleeps-clause-fit g c = λ yes.
    let grid : Grid = g.B.Board.grid c.args.board.now in
    let table : Option (List ℕ) = g.B.Board.table c.args.board.now in
    let rows = c.args.rows.now in
    let long : length rows ≤ length c.advance.new.scratch = omega (arith, c.requires.long, c.advance.ensures.same.long) in
    let next : List Choice = choices_of grid.height rows c.advance.new.scratch in
    ap (all_fit grid (rows_meaning table rows))
    (same_chosen_for grid table rows c.advance.new.scratch c.forget_rows.new.scratch c.in-Some.count long
    c.forget_rows.ensures.forgotten c.in-Some.ensures.started c.forget_rows.ensures.left)
    ∙ first_is (all_fit grid (rows_meaning table rows))
    (behind_from c.args.first (choices_of grid.height rows c.args.scratch.now))
    (chosen next) (behind next) c.in-Some.ensures.found

pub returns-then-sleeps-clause-fewer : goal.returns-then-sleeps-clause-fewer
returns-then-sleeps-clause-fewer g c = λ yes.
    let height : ℕ = (g.B.Board.grid c.args.board.now).height in
    let rows = c.args.rows.now in
    let long : length rows ≤ length c.advance.new.scratch = omega (arith, c.requires.long, c.advance.ensures.same.long) in
    let less : length (behind (choices_of height rows c.forget_rows.new.scratch)) ≤ length
    (behind (choices_of height rows c.advance.new.scratch)) =
    fewer_behind height rows c.advance.new.scratch c.forget_rows.new.scratch long c.forget_rows.ensures.forgotten in
    rw c.in-Some.ensures.found (omega (arith, less))

pub returns-then-sleeps-clause-places : goal.returns-then-sleeps-clause-places
returns-then-sleeps-clause-places g c = λ yes.
    placed_kept (g.B.Board.grid c.args.board.now) c.args.rows.now c.advance.new.scratch c.forget_rows.new.scratch
    c.forget_rows.ensures.forgotten c.in-Some.ensures.places

pub returns-then-sleeps-clause-lines : goal.returns-then-sleeps-clause-lines
returns-then-sleeps-clause-lines g c =
    lines_kept (g.B.Board.grid c.args.board.now) c.args.rows.now c.advance.new.scratch c.forget_rows.new.scratch
    c.forget_rows.ensures.forgotten
    (lines_still (g.B.Board.grid c.args.board.now) (g.B.Board.table c.args.board.now) c.args.rows.now c.args.scratch.now
    c.advance.new.scratch
    c.advance.ensures.same c.requires.lines)

pub returns-else-sleeps-clause-fit : goal.returns-else-sleeps-clause-fit
returns-else-sleeps-clause-fit g c = λ yes.
    let grid : Grid = g.B.Board.grid c.args.board.now in
    let table : Option (List ℕ) = g.B.Board.table c.args.board.now in
    let rows = c.args.rows.now in
    let next : List Choice = choices_of grid.height rows c.advance.new.scratch in
    first_is (all_fit grid (rows_meaning table rows))
    (behind_from c.args.first (choices_of grid.height rows c.args.scratch.now))
    (chosen next) (behind next) c.in-Some.ensures.found

pub returns-else-sleeps-clause-lines : goal.returns-else-sleeps-clause-lines
returns-else-sleeps-clause-lines g c =
    lines_still (g.B.Board.grid c.args.board.now)
    (g.B.Board.table c.args.board.now) c.args.rows.now c.args.scratch.now c.advance.new.scratch
    c.advance.ensures.same c.requires.lines

pub advance-requires-clause-long : goal.advance-requires-clause-long
advance-requires-clause-long g c = c.requires.long

pub advance-requires-clause-lines : goal.advance-requires-clause-lines
advance-requires-clause-lines g c = c.requires.lines

pub advance-requires-clause-places : goal.advance-requires-clause-places
advance-requires-clause-places g c = c.requires.places

pub advance-requires-clause-slower : goal.advance-requires-clause-slower
advance-requires-clause-slower g c = c.requires.slower

pub returns-in_default-clause-same : goal.returns-in_default-clause-same
returns-in_default-clause-same g c = λ e. absurd (true≢false (sym e))

pub returns-in_default-clause-fit : goal.returns-in_default-clause-fit
returns-in_default-clause-fit g c = λ e. absurd (true≢false (sym e))

pub returns-in_default-clause-fewer : goal.returns-in_default-clause-fewer
returns-in_default-clause-fewer g c = λ e. absurd (true≢false (sym e))

pub returns-in_default-clause-places : goal.returns-in_default-clause-places
returns-in_default-clause-places g c = λ e. absurd (true≢false (sym e))

pub returns-in_default-clause-none : goal.returns-in_default-clause-none
returns-in_default-clause-none g c = λ e. c.in_default.ensures.none refl

pub returns-in_default-clause-long : goal.returns-in_default-clause-long
returns-in_default-clause-long g c = c.advance.ensures.same.long

pub forget_rows-requires-clause-long : goal.forget_rows-requires-clause-long
forget_rows-requires-clause-long g c = omega (arith, c.requires.long, c.advance.ensures.same.long)

pub forget_rows-requires-clause-count : goal.forget_rows-requires-clause-count
forget_rows-requires-clause-count g c = c.in-Some.ensures.count

pub returns-then-sleeps-clause-none : goal.returns-then-sleeps-clause-none
returns-then-sleeps-clause-none g c = λ e. absurd (true≢false e)

pub returns-then-sleeps-clause-long : goal.returns-then-sleeps-clause-long
returns-then-sleeps-clause-long g c = c.forget_rows.ensures.forgotten.long ∙ c.advance.ensures.same.long

pub returns-else-sleeps-clause-same : goal.returns-else-sleeps-clause-same
returns-else-sleeps-clause-same g c = λ yes changed.
    ap (λ (left : List (List (List ℕ))).
    let now : Rewritten = record { grid = g.B.Board.grid c.args.board.now; changed = changed } in
    fold (applied (rows_meaning (g.B.Board.table c.args.board.now) c.args.rows.now)) now left)
    (sym c.in-Some.ensures.found)

pub returns-else-sleeps-clause-fewer : goal.returns-else-sleeps-clause-fewer
returns-else-sleeps-clause-fewer g c = λ yes.
    let next : List Choice = choices_of (g.B.Board.grid c.args.board.now).height c.args.rows.now c.advance.new.scratch in
    subst (λ (left : List (List (List ℕ))). length (behind next) < length left) (sym c.in-Some.ensures.found)
    (omega arith)

pub returns-else-sleeps-clause-none : goal.returns-else-sleeps-clause-none
returns-else-sleeps-clause-none g c = λ e. absurd (true≢false e)

pub returns-else-sleeps-clause-places : goal.returns-else-sleeps-clause-places
returns-else-sleeps-clause-places g c = λ yes. c.in-Some.ensures.places

pub returns-else-sleeps-clause-long : goal.returns-else-sleeps-clause-long
returns-else-sleeps-clause-long g c = c.advance.ensures.same.long
