use Rattle.std.proofs.Common.{◌≡◌, ◌<◌, ◌∙◌, ℕ, [], length, sym, refl, ap, Bool, List, false, subst, ◌+◌, ◌*◌}
use Rattle.std.proofs.lemmas.List.{get_or_read}
use Rattle.ps_rows.proofs.Marked.{plane_indexed}
use Rattle.ps_rows.proofs.PlaneCopies.{marked_plane, plane_blank, sets_planes, unmarked_plane}
use Rattle.ps_rows.specs.Planes.{row_of}
use Rattle.ps_board.specs.ColumnSets.{column_at, no_columns, set_columns}
use Rattle.std.specs.Vec.{with_items}
use Rattle.std.proofs.lemmas.List.{with_items_is}
use Rattle.ps_rows.specs.PlaneCopies.{ArePlanesOf}
use Rattle.ps_rows.proofs.Sets.{none_at, set_where}
use Rattle.ps_rows.proofs.UsedPlanes.{uses_marked}
use Rattle.ps_rows.proofs.planes.Planes.clear_marked.Goals as goal

pub returns-then-is_empty-clause-words : goal.returns-then-is_empty-clause-words
returns-then-is_empty-clause-words g c =
    let p = c.args.self.now in
    let plane : ℕ = c.args.plane in
    let counted : plane < p.index.len = plane_indexed p.index.len p.height plane p.words.len p.some_row p.whole
    c.requires in
    let N : ℕ → Type 0 = λ n. plane < n in
    let own : plane < length p.index.items = subst N p.index.ok.0 counted in
    let none : set_columns (row_of p.index.items plane) ≡ [] =
    ap set_columns (sym (get_or_read p.index.items _ _ own c.index.ensures no_columns))
    ∙ c.is_empty.ensures.none c.if-is_empty.true in
    plane_blank p.height plane [] p.words.items
    (unmarked_plane p.index.len p.height plane p.words.items p.index.items p.rows counted p.marked none)
    (λ row under. refl)

pub invariant_of-self-clause-marked : goal.invariant_of-self-clause-marked
invariant_of-self-clause-marked g c =
    let p = c.args.self.now in
    let left : List (List Bool) = c.clear_marked_rows.new.words in
    let long : length left ≡ p.words.len = c.clear_marked_rows.auto.words ∙ c.as_mut_slice.ensures.len in
    let B : List (List Bool) → Type 0 = λ ws. ArePlanesOf p.height c.args.plane (c.args.plane + 1) [] ws left in
    let D : List (List Bool) → Type 0 = λ ws. ArePlanesOf p.height c.args.plane (c.args.plane + 1) [] p.words.items ws
    in
    let changed : ArePlanesOf p.height c.args.plane (c.args.plane + 1) [] p.words.items (with_items p.words left).items
    =
    subst D (sym (with_items_is p.words left long)) (subst B c.as_mut_slice.ensures.value c.clear_marked_rows.ensures) in
    let counted : c.args.plane < p.index.len =
    plane_indexed p.index.len p.height c.args.plane p.words.len p.some_row p.whole c.requires in
    let N : ℕ → Type 0 = λ n. c.args.plane < n in
    let own : c.args.plane < length p.index.items = subst N p.index.ok.0 counted in
    marked_plane p.index.len p.height c.args.plane c.none.result [] p.words.items (with_items p.words left).items
    p.index.items own changed p.marked (λ row under clear. refl)

pub invariant_of-self-clause-sets : goal.invariant_of-self-clause-sets
invariant_of-self-clause-sets g c =
    let p = c.args.self.now in
    let left : List (List Bool) = c.clear_marked_rows.new.words in
    let long : length left ≡ p.words.len = c.clear_marked_rows.auto.words ∙ c.as_mut_slice.ensures.len in
    let B : List (List Bool) → Type 0 = λ ws. ArePlanesOf p.height c.args.plane (c.args.plane + 1) [] ws left in
    let D : List (List Bool) → Type 0 = λ ws. ArePlanesOf p.height c.args.plane (c.args.plane + 1) [] p.words.items ws
    in
    let changed : ArePlanesOf p.height c.args.plane (c.args.plane + 1) [] p.words.items (with_items p.words left).items
    =
    subst D (sym (with_items_is p.words left long)) (subst B c.as_mut_slice.ensures.value c.clear_marked_rows.ensures) in
    sets_planes p.height c.args.plane (c.args.plane + 1) [] p.words.items (with_items p.words left).items p.some_row
    changed (λ place. set_where (λ x. false)) p.sets

pub index-requires : goal.index-requires
index-requires g c =
    let p = c.args.self.now in
    plane_indexed p.index.len p.height c.args.plane p.words.len p.some_row p.whole c.requires

pub index_mut-requires : goal.index_mut-requires
index_mut-requires g c =
    let p = c.args.self.now in
    plane_indexed p.index.len p.height c.args.plane p.words.len p.some_row p.whole c.requires

pub clear_marked_rows-requires : goal.clear_marked_rows-requires
clear_marked_rows-requires g c =
    let p = c.args.self.now in
    let plane : ℕ = c.args.plane in
    let counted : plane < p.index.len = plane_indexed p.index.len p.height plane p.words.len p.some_row p.whole
    c.requires in
    let N : ℕ → Type 0 = λ n. plane < n in
    let own : plane < length p.index.items = subst N p.index.ok.0 counted in
    let read : row_of p.index.items plane ≡ c.index.result.now =
    sym (get_or_read p.index.items _ _ own c.index.ensures no_columns) in
    record {
      short = p.rows;
      low = p.low;
      plane = rw c.as_mut_slice.ensures.len c.requires;
      blank = λ row under clear.
          ap (λ (ws : List (List Bool)). row_of ws (plane * p.height + row)) c.as_mut_slice.ensures.value
          ∙ p.marked plane row counted under (ap (λ (w : List Bool). column_at w row) read ∙ clear);
    }

pub invariant_of-self-clause-whole : goal.invariant_of-self-clause-whole
invariant_of-self-clause-whole g c = c.args.self.now.whole

pub returns-clause-words : goal.returns-clause-words
returns-clause-words g c =
    let p = c.args.self.now in
    let left : List (List Bool) = c.clear_marked_rows.new.words in
    let long : length left ≡ p.words.len = c.clear_marked_rows.auto.words ∙ c.as_mut_slice.ensures.len in
    let B : List (List Bool) → Type 0 = λ ws. ArePlanesOf p.height c.args.plane (c.args.plane + 1) [] ws left in
    let D : List (List Bool) → Type 0 = λ ws. ArePlanesOf p.height c.args.plane (c.args.plane + 1) [] p.words.items ws
    in
    subst D (sym (with_items_is p.words left long)) (subst B c.as_mut_slice.ensures.value c.clear_marked_rows.ensures)

pub returns-clause-count : goal.returns-clause-count
returns-clause-count g c = refl

pub returns-clause-marks : goal.returns-clause-marks
returns-clause-marks g c = refl

pub invariant_of-self-clause-noted : goal.invariant_of-self-clause-noted
invariant_of-self-clause-noted g c = λ many.
    let p = c.args.self.now in
    let counted : c.args.plane < p.index.len =
    plane_indexed p.index.len p.height c.args.plane p.words.len p.some_row p.whole c.requires in
    let N : ℕ → Type 0 = λ n. c.args.plane < n in
    let own : c.args.plane < length p.index.items = subst N p.index.ok.0 counted in
    uses_marked p.index.len c.args.plane c.none.result p.index.items p.used.words.items p.used.words.items own
    (λ off row low. ap (λ (w : List Bool). column_at w row) c.none.ensures ∙ none_at row) (λ each off. off)
    (p.noted many)

pub invariant_of-self-clause-room : goal.invariant_of-self-clause-room
invariant_of-self-clause-room g c = c.args.self.now.room
