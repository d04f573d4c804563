use Rattle.std.proofs.Common.{◌≡◌, ◌∙◌, ℕ, suc, ◌+◌, ◌*◌, ◌<◌, ◌≤◌, Bool, List, length, refl, sym, ap, arith}
use Rattle.std.proofs.lemmas.Nat.{mul-add-lt}
use Rattle.std.specs.Prelude.{encode_utf8}
use Rattle.ps_model.specs.board.Grid.{cell_at}
use Rattle.ps_model.specs.session.Frames.{shown_character}
use Rattle.ps_board.specs.ColumnSets.{column_at, columns_without, set_columns}
use Rattle.ps_board.proofs.Taken.{was_in}
use Rattle.ps_screen.proofs.Groups.{Group, group_drawn, group_kept, group_of, was_left}
use Rattle.ps_screen.proofs.PlainRows.{all_drawn}
use Rattle.ps_screen.proofs.Taken.{first_was_in, no_more}
use Rattle.ps_screen.proofs.patching.patch_columns.Goals as goal

pub cell_character-requires-clause-cell : goal.cell_character-requires-clause-cell
cell_character-requires-clause-cell g c =
    let grid = g.B.Board.grid c.args.board.now in
    let own = first_was_in c.loop-column.left c.take_first.new.self c.in-Some.column c.in-Some.ensures.some
    c.in-Some.ensures.within in
    let under : c.in-Some.column < grid.width =
    c.loop-column.invariant.within c.in-Some.column c.in-Some.ensures.within own in
    let place : c.in-Some.column * grid.height + c.args.row < grid.height * grid.width =
    mul-add-lt c.in-Some.column grid.height c.args.row grid.width under c.requires.row in
    rw c.size-width.ensures.height (omega arith)

pub put_alike-left-requires-clause-column : goal.put_alike-left-requires-clause-column
put_alike-left-requires-clause-column g c =
    c.loop-column.invariant.within c.in-Some.column c.in-Some.ensures.within
    (first_was_in c.loop-column.left c.take_first.new.self c.in-Some.column c.in-Some.ensures.some
    c.in-Some.ensures.within)

pub put_alike-left-requires-clause-own : goal.put_alike-left-requires-clause-own
put_alike-left-requires-clause-own g c =
    let under = c.loop-column.invariant.within c.in-Some.column c.in-Some.ensures.within
    (first_was_in c.loop-column.left c.take_first.new.self c.in-Some.column c.in-Some.ensures.some
    c.in-Some.ensures.within) in
    omega (arith, under, c.loop-column.invariant.drawn.long)

pub put_alike-left-requires-clause-others : goal.put_alike-left-requires-clause-others
put_alike-left-requires-clause-others g c = λ x low has.
    let under = c.loop-column.invariant.within x low
    (was_in c.loop-column.left c.take_first.new.self c.in-Some.column x c.in-Some.ensures.some low has) in
    omega (arith, under, c.loop-column.invariant.drawn.long)

pub loop-column-smaller : goal.loop-column-smaller
loop-column-smaller g c =
    let left : List Bool = c.take_first.new.self in
    let fewer : length (set_columns c.put_alike-left.result) ≤ length (set_columns left) =
    rw c.put_alike-left.ensures.written.behind (no_more left c.put_alike-left.ensures.written.group) in
    let one : length (set_columns c.loop-column.left) ≡ suc (length (set_columns left)) =
    ap (λ (xs : List ℕ). length xs) c.in-Some.ensures.some in
    omega (arith, fewer, one)

pub loop-column-preserved : goal.loop-column-preserved
loop-column-preserved g c =
    let grid = g.B.Board.grid c.args.board.now in
    let left : List Bool = c.take_first.new.self in
    let column : ℕ = c.in-Some.column in
    let written = c.put_alike-left.ensures.written in
    let others : List Bool = written.others in
    let made : written.group ≡ group_of left others column = written.is in
    let behind : c.put_alike-left.result ≡ columns_without left (group_of left others column) =
    written.behind ∙ ap (λ (set : List Bool). columns_without left set) made in
    let own = first_was_in c.loop-column.left left column c.in-Some.ensures.some c.in-Some.ensures.within in
    let shown = c.in_ok-character.ensures ∙ ap (λ (h : ℕ).
    shown_character c.args.look.now (cell_at grid (column * h + c.args.row))) c.size-width.ensures.height in
    let group : Group c.args.look.now grid c.args.row column c.in-Some-one_byte.byte c.loop-column.left left
    others c.args.start c.loop-column.text c.put_alike-left.new.text =
    record {
      narrow = c.size-width.ensures.shape.columns;
      under = c.loop-column.invariant.within column c.in-Some.ensures.within own;
      taken = c.in-Some.ensures.some;
      within = c.loop-column.invariant.within;
      same = written.alike;
      bytes = ap (λ (character : ℕ). encode_utf8 character) (sym shown) ∙ c.in-Some-one_byte.ensures;
      before = c.loop-column.invariant.drawn;
      long = c.put_alike-left.ensures.long;
      there = λ x low has. written.there x low (ap (λ (set : List Bool). column_at set x) made ∙ has);
      elsewhere = λ at out. written.elsewhere at (λ x low has.
          out x low (ap (λ (set : List Bool). column_at set x) (sym made) ∙ has));
    } in
    record {
      within = λ x low has.
          c.loop-column.invariant.within x low
          (was_in c.loop-column.left left column x c.in-Some.ensures.some low
          (was_left left (group_of left others column) x low
          (ap (λ (set : List Bool). column_at set x) (sym behind) ∙ has)));
      long = c.put_alike-left.ensures.long ∙ c.loop-column.invariant.long;
      drawn = rw behind (group_drawn c.args.look.now grid c.args.row column c.in-Some-one_byte.byte c.loop-column.left
          left others c.args.start c.loop-column.text c.put_alike-left.new.text group);
      elsewhere = λ at outside.
          group_kept c.args.look.now grid c.args.row column c.in-Some-one_byte.byte c.loop-column.left left
          others c.args.start c.loop-column.text c.put_alike-left.new.text group at outside
          ∙ c.loop-column.invariant.elsewhere at outside;
    }

pub returns : goal.returns
returns g c =
    record {
      long = c.loop-column.invariant.long;
      plain = λ plain.
          all_drawn c.args.look.now (g.B.Board.grid c.args.board.now) c.args.row c.loop-column.left c.args.start
          c.loop-column.text c.size-width.ensures.shape.columns
          (c.in_default.ensures.none refl) c.loop-column.invariant.drawn;
      elsewhere = c.loop-column.invariant.elsewhere;
    }
