use Rattle.std.proofs.Common.{◌≡◌, ◌∙◌, ℕ, ◌<◌, ◌≤◌, Bool, Option, List, [], ◌∷◌, false, true, fold, length, sym, subst}
use Rattle.std.proofs.Common.{ap, arith}
use Rattle.ps_model.specs.board.Grid.{Grid}
use Rattle.ps_model.specs.board.Attempts.{Rewritten, all_fit, applied, rewritten_rows}
use Rattle.ps_places.specs.Ways.{from_first}
use Rattle.ps_engine.specs.Choices.{Choice, behind, behind_from, choices_of, chosen}
use Rattle.ps_engine.specs.Choosing.{rows_meaning}
use Rattle.ps_engine.proofs.Rewriting.{same_height, turn}
use Rattle.ps_engine.proofs.ScratchChanged.{lines_there, placed_there}
use Rattle.ps_engine.proofs.Sought.{no_more}
use Rattle.ps_match.specs.FixedParts.{same_layers, same_sides}
use Rattle.ps_engine.proofs.walking.walk.Goals as goal

pub go_on-requires-clause-lines : goal.go_on-requires-clause-lines
go_on-requires-clause-lines g c =
    lines_there (g.B.Board.grid c.rewrite_rows-changed.new.board) (g.B.Board.grid c.loop-sleeps.board) c.args.rows.now
    c.loop-sleeps.scratch (same_sides c.rewrite_rows-changed.ensures.fixed) c.loop-sleeps.invariant.lines

pub go_on-requires-clause-places : goal.go_on-requires-clause-places
go_on-requires-clause-places g c =
    placed_there (g.B.Board.grid c.rewrite_rows-changed.new.board) (g.B.Board.grid c.loop-sleeps.board) c.args.rows.now
    c.loop-sleeps.scratch (same_sides c.rewrite_rows-changed.ensures.fixed) c.loop-sleeps.invariant.places

pub returns-then-not-go_on-clause-rewritten : goal.returns-then-not-go_on-clause-rewritten
returns-then-not-go_on-clause-rewritten g c =
    let table : Option (List ℕ) = g.B.Board.table c.args.board.now in
    let other : Option (List ℕ) = g.B.Board.table c.rewrite_rows-changed.new.board in
    let before : Rewritten = record { grid = g.B.Board.grid c.loop-sleeps.board; changed = c.loop-sleeps.changed } in
    let after : Rewritten = record {
      grid = g.B.Board.grid c.rewrite_rows-changed.new.board;
      changed =
          c.rewrite_rows-changed.result;
    } in
    let e : other ≡ table = same_layers c.rewrite_rows-changed.ensures.fixed ∙ same_layers c.loop-sleeps.invariant.fixed in
    let d : after.grid.height ≡ before.grid.height =
    same_height after.grid before.grid (same_sides c.rewrite_rows-changed.ensures.fixed) in
    let made : after ≡ rewritten_rows before (rows_meaning table c.args.rows.now)
    (chosen (choices_of before.grid.height c.args.rows.now c.loop-sleeps.scratch)) =
    c.rewrite_rows-changed.ensures.rewritten
    ∙ ap (λ (t : Option (List ℕ)). rewritten_rows before (rows_meaning t c.args.rows.now)
    (chosen (choices_of before.grid.height c.args.rows.now c.loop-sleeps.scratch))) (same_layers c.loop-sleeps.invariant.fixed) in
    let no : c.go_on.result ≡ false = c.if-not-go_on.true in
    turn c.args.rows.now c.loop-sleeps.scratch table other before.grid.height after.grid.height before after [] e d
    c.loop-sleeps.invariant.fit made (c.slowest_unfit-first.ensures.passed ∙ c.go_on.ensures.none no)
    ∙ c.loop-sleeps.invariant.rewritten

pub loop-sleeps-smaller : goal.loop-sleeps-smaller
loop-sleeps-smaller g c =
    let rows = c.args.rows.now in
    let before : Grid = g.B.Board.grid c.loop-sleeps.board in
    let after : Grid = g.B.Board.grid c.rewrite_rows-changed.new.board in
    let d : after.height ≡ before.height = same_height after before (same_sides c.rewrite_rows-changed.ensures.fixed) in
    let next : List Choice = choices_of after.height rows c.go_on.new.scratch in
    let all : List (List (List ℕ)) = behind (choices_of after.height rows c.loop-sleeps.scratch) in
    let fits : List (List ℕ) → Bool = all_fit after
    (rows_meaning (g.B.Board.table c.rewrite_rows-changed.new.board) rows) in
    let yes : c.go_on.result ≡ true = c.if-not-go_on.false in
    let most : length (from_first fits all) ≤ length all = no_more fits all in
    let left : List (List (List ℕ)) = from_first fits
    (behind_from c.slowest_unfit-first.result (choices_of after.height rows c.loop-sleeps.scratch)) in
    let fewer : length (behind next) < length left = c.go_on.ensures.fewer yes in
    let same : length (from_first fits all) ≡ length left = ap length c.slowest_unfit-first.ensures.passed in
    let less : length (behind next) < length all = omega (arith, most, fewer, same) in
    subst (λ (h : ℕ). length (behind next) < length (behind (choices_of h rows c.loop-sleeps.scratch))) d less

pub loop-sleeps-preserved : goal.loop-sleeps-preserved
loop-sleeps-preserved g c =
    let rows = c.args.rows.now in
    let table : Option (List ℕ) = g.B.Board.table c.args.board.now in
    let other : Option (List ℕ) = g.B.Board.table c.rewrite_rows-changed.new.board in
    let before : Rewritten = record { grid = g.B.Board.grid c.loop-sleeps.board; changed = c.loop-sleeps.changed } in
    let after : Rewritten = record {
      grid = g.B.Board.grid c.rewrite_rows-changed.new.board;
      changed =
          c.rewrite_rows-changed.result;
    } in
    let e : other ≡ table = same_layers c.rewrite_rows-changed.ensures.fixed ∙ same_layers c.loop-sleeps.invariant.fixed in
    let d : after.grid.height ≡ before.grid.height =
    same_height after.grid before.grid (same_sides c.rewrite_rows-changed.ensures.fixed) in
    let made : after ≡ rewritten_rows before (rows_meaning table rows)
    (chosen (choices_of before.grid.height rows c.loop-sleeps.scratch)) =
    c.rewrite_rows-changed.ensures.rewritten
    ∙ ap (λ (t : Option (List ℕ)). rewritten_rows before (rows_meaning t rows)
    (chosen (choices_of before.grid.height rows c.loop-sleeps.scratch))) (same_layers c.loop-sleeps.invariant.fixed) in
    let yes : c.go_on.result ≡ true = c.if-not-go_on.false in
    let next : List Choice = choices_of after.grid.height rows c.go_on.new.scratch in
    let left : List (List (List ℕ)) =
    from_first (all_fit after.grid (rows_meaning other rows))
    (behind_from c.slowest_unfit-first.result (choices_of after.grid.height rows c.loop-sleeps.scratch)) in
    record {
      long = c.go_on.ensures.long ∙ c.loop-sleeps.invariant.long;
      lines = c.go_on.ensures.lines;
      places = c.go_on.ensures.places yes;
      fit =
          ap (λ (t : Option (List ℕ)). all_fit after.grid (rows_meaning t rows) (chosen next)) (sym e)
          ∙ c.go_on.ensures.fit yes;
      rewritten =
          ap (λ (t : Option (List ℕ)). fold (applied (rows_meaning t rows)) after (chosen next ∷ behind next)) (sym e)
          ∙ c.go_on.ensures.same yes after.changed
          ∙ ap (λ (t : Option (List ℕ)). fold (applied (rows_meaning t rows)) after left) e
          ∙ turn rows c.loop-sleeps.scratch table other before.grid.height after.grid.height before after left e d
          c.loop-sleeps.invariant.fit made c.slowest_unfit-first.ensures.passed
          ∙ c.loop-sleeps.invariant.rewritten;
      fixed = c.rewrite_rows-changed.ensures.fixed ∙ c.loop-sleeps.invariant.fixed;
    }
