use Rattle.std.proofs.Common.{◌≡◌, ◌∙◌, ℕ, ◌+◌, ◌*◌, ◌<◌, ◌≤◌, [], Bool, List, length, sym, ap, ap₂, refl, rules}
use Rattle.std.specs.Prelude.{slice_index_or, slice_set}
use Rattle.std.proofs.lemmas.List.{length-set, with_items_is}
use Rattle.ps_board.specs.ColumnSets.{columns_below, columns_without, set_columns}
use Rattle.ps_places.specs.Forgetting.{first_position}
use Rattle.ps_places.specs.RowPlaces.{sets_on, way_of}
use Rattle.ps_places.specs.Ways.{positions_from}
use Rattle.ps_places.proofs.Forgetting.{first-of-way, first-set, forgotten}
use Rattle.ps_places.proofs.SeekingPlaces.{sets-within, start_below, start_fits}
use Rattle.ps_places.proofs.chosen.RowScratch+Columns+W.forget.Goals as goal

pub returns : goal.returns
returns g c = λ height.
    let count : ℕ = length c.args.row.now.parts in
    let line : ℕ = c.args.self.now.line in
    let starts : List (List Bool) = c.args.self.now.starts.items in
    let some : 0 < count = c.args.row.now.some in
    let within : line * count + count ≤ length starts =
    sets-within line count (length starts) c.requires.low c.args.row.now.few
    (sym ((c.args.self.now.starts).ok.0) ∙ c.args.self.now.long) in
    let at : c.from.result * length c.as_slice.result.now ≡ line * count =
    ap₂ (λ (l n : ℕ). l * n) c.from.ensures (ap length c.as_slice.ensures) in
    let left : set_columns c.behind_position.result ≡ positions_from (slice_index_or (sets_on starts count line) 0 [])
    (first_position (way_of c.args.row.now c.args.self.now)) =
    c.behind_position.ensures
    ∙ ap₂ (λ (set : List Bool) (p : ℕ). positions_from set p)
    (sym (first-set starts count (line * count) c.index-starts-at.result c.index-starts-at.result some
    (start_below line count count (length starts) refl c.requires.low some c.args.row.now.few
    (sym ((c.args.self.now.starts).ok.0) ∙ c.args.self.now.long))
    (rw (c.as_mut_slice-starts.ensures.value, at) at c.index-starts-at.is)))
    (c.from-position.ensures ∙ sym (first-of-way c.args.self.now.way count some)) in
    let written : List (List Bool) = slice_set c.as_mut_slice-starts.result.now
    (c.from.result * length c.as_slice.result.now) c.behind_position.result in
    let long : length written ≡ (c.args.self.now.starts).len =
    length-set c.as_mut_slice-starts.result.now (c.from.result * length c.as_slice.result.now) c.behind_position.result
    ∙ ap length c.as_mut_slice-starts.ensures.value ∙ sym ((c.args.self.now.starts).ok.0) in
    forgotten height c.args.row.now c.args.self.now _ c.behind_position.result c.requires left
    (c.not_below-self.ensures
    ∙ ap (λ (n : ℕ). columns_without c.args.self.now.lines (columns_below n)) c.from-2.ensures)
    (with_items_is c.args.self.now.starts written long
    ∙ ap₂ (λ (ss : List (List Bool)) (n : ℕ). slice_set ss n c.behind_position.result)
    c.as_mut_slice-starts.ensures.value at)
    refl refl

pub overflow_mul-at : goal.overflow_mul-at
overflow_mul-at g c =
    rw c.from.ensures (start_fits c.args.self.now.line (length c.args.row.now.parts) (length c.as_slice.result.now)
    (ap length c.as_slice.ensures) c.requires.low c.args.row.now.few)

pub bounds-starts-at : goal.bounds-starts-at
bounds-starts-at g c = rw c.from.ensures
    (start_below c.args.self.now.line (length c.args.row.now.parts) (length c.as_slice.result.now)
    (length c.as_mut_slice-starts.result.now) (ap length c.as_slice.ensures) c.requires.low c.args.row.now.some
    c.args.row.now.few (c.as_mut_slice-starts.ensures.len ∙ c.args.self.now.long))

pub bounds-starts-at-2 : goal.bounds-starts-at-2
bounds-starts-at-2 g c = rw c.from.ensures
    (start_below c.args.self.now.line (length c.args.row.now.parts) (length c.as_slice.result.now)
    (length c.as_mut_slice-starts.result.now) (ap length c.as_slice.ensures) c.requires.low c.args.row.now.some
    c.args.row.now.few (c.as_mut_slice-starts.ensures.len ∙ c.args.self.now.long))

pub offset_bounds-starts-at : goal.offset_bounds-starts-at
offset_bounds-starts-at g c =
    let within : c.from.result * length c.as_slice.result.now < length c.as_mut_slice-starts.result.now =
    rw c.from.ensures
    (start_below c.args.self.now.line (length c.args.row.now.parts) (length c.as_slice.result.now)
    (length c.as_mut_slice-starts.result.now) (ap length c.as_slice.ensures) c.requires.low c.args.row.now.some
    c.args.row.now.few (c.as_mut_slice-starts.ensures.len ∙ c.args.self.now.long)) in
    search rules

pub offset_bounds-starts-at-2 : goal.offset_bounds-starts-at-2
offset_bounds-starts-at-2 g c =
    let within : c.from.result * length c.as_slice.result.now < length c.as_mut_slice-starts.result.now =
    rw c.from.ensures
    (start_below c.args.self.now.line (length c.args.row.now.parts) (length c.as_slice.result.now)
    (length c.as_mut_slice-starts.result.now) (ap length c.as_slice.ensures) c.requires.low c.args.row.now.some
    c.args.row.now.few (c.as_mut_slice-starts.ensures.len ∙ c.args.self.now.long)) in
    search rules

pub invariant_of-self : goal.invariant_of-self
invariant_of-self g c =
    let self = c.args.self.now in
    record {
      long = self.long;
      fronts_long = self.fronts_long;
      backs_long = self.backs_long;
      scanned_long = self.scanned_long;
    }
