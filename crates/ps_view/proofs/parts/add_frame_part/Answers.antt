use Rattle.std.proofs.Common.{◌≡◌, ◌∙◌, ◌-◌, ◌/◌, ◌≤◌, ℕ, arith, ap, length, take, drop, min, [], ◌∷◌}
use Rattle.std.specs.Prelude.{nat_lt}
use Rattle.ps_view.proofs.FrameRows.{texts_count, texts_dropped, texts_taken}
use Rattle.ps_view.proofs.ShownRows.{edged_room, frame_parted, plain_part_cut}
use Rattle.ps_view.specs.Corners.{edge, row_part}
use Rattle.ps_view.specs.Frames.{texts_of}
use Rattle.ps_view.specs.Rows.{more_mark}
use Rattle.ps_view.proofs.parts.add_frame_part.Goals as goal

pub returns-then-rows-lt-ROOM_WITH_EDGES : goal.returns-then-rows-lt-ROOM_WITH_EDGES
returns-then-rows-lt-ROOM_WITH_EDGES c =
    let rows = c.last-frame.result.now in
    let from = c.split_at.result.1.now in
    let frame = texts_of rows in
    let is_last = c.last-frame.ensures in
    let count = texts_count rows in
    let left = texts_count from in
    let all : length rows ≡ length frame = omega (arith, count) in
    let rest : length from ≡ length (texts_of from) = omega (arith, left) in
    let cut = plain_part_cut c.args.rows c.shown_in-size.result c.args.corner.top (more_mark ∷ []) [] frame
    (texts_of from) (omega (arith, all, c.if-frame-rows.false)) c.if-rows-lt-ROOM_WITH_EDGES.true
    c.shown_in-size.ensures
    (ap texts_of (c.split_at.ensures.back ∙ ap (λ (n : ℕ). drop n rows)
    (c.min.ensures ∙ ap (λ (n : ℕ). min c.args.corner.top n) all)) ∙ texts_dropped rows _) in
    let shown : texts_of c.split_at-2.result.0.now
    ≡ take (min c.shown_in-size.result (length (texts_of from))) (texts_of from) =
    ap texts_of (c.split_at-2.ensures.front ∙ ap (λ (n : ℕ). take n from)
    (c.min-2.ensures ∙ ap (λ (n : ℕ). min c.shown_in-size.result n) rest)) ∙ texts_taken from _ in
    rw (← c.cell_width-width.ensures.width, ← is_last, cut, ← shown) c.add_row_parts-then-rows-lt-ROOM_WITH_EDGES.ensures

pub returns : goal.returns
returns c =
    let some : 3 ≤ c.args.rows = omega (arith, c.if-rows-lt-ROOM_WITH_EDGES.false) in
    let edged : c.shown_in-size.result ≡ c.args.rows - 2 = c.shown_in-size.ensures ∙ edged_room c.args.rows some in
    let rows = c.last-frame.result.now in
    let from = c.split_at.result.1.now in
    let frame = texts_of rows in
    let is_last = c.last-frame.ensures in
    let count = texts_count rows in
    let left = texts_count from in
    let all : length rows ≡ length frame = omega (arith, count) in
    let rest : length from ≡ length (texts_of from) = omega (arith, left) in
    rw (← c.cell_width-width.ensures.width, ← is_last)
    (frame_parted
    (row_part c.cell_width-width.result (c.args.columns / c.cell_width-width.result) c.args.corner.left) c.args.rows
    c.args.corner.top frame (texts_of from) (texts_of c.split_at-2.result.0.now) c.args.screen.now.items c.add_row_part.new.screen.items
    c.add_row_parts-2.new.screen.items c.add_row_part-2.new.screen.items c.edge_row.result.now c.edge_row-2.result.now
    (omega (arith, all, c.if-frame-rows.false)) some
    (ap texts_of (c.split_at.ensures.back ∙ ap (λ (n : ℕ). drop n rows)
    (c.min.ensures ∙ ap (λ (n : ℕ). min c.args.corner.top n) all)) ∙ texts_dropped rows _)
    (ap texts_of (c.split_at-2.ensures.front ∙ ap (λ (n : ℕ). take n from)
    (c.min-2.ensures ∙ ap (λ (n : ℕ). min n (length from)) edged
    ∙ ap (λ (n : ℕ). min (c.args.rows - 2) n) rest)) ∙ texts_taken from _)
    c.edge_row.ensures
    (c.edge_row-2.ensures ∙ ap (λ (n : ℕ). edge (more_mark ∷ []) [] (nat_lt n (length from))) edged
    ∙ ap (λ (n : ℕ). edge (more_mark ∷ []) [] (nat_lt (c.args.rows - 2) n)) rest)
    c.in_ok-add_row_part.ensures c.in_ok-add_row_parts-2.ensures c.in_ok-add_row_part-2.ensures)
