use Rattle.std.proofs.Common.{◌≡◌, ◌∙◌, ◌+◌, ◌*◌, ◌/◌, ◌≤◌, ℕ, Bool, List, length, ap, sym, subst}
use Rattle.ps_rows.specs.UsedPlanes.{AreUsesNoted, sets_for}
use Rattle.ps_rows.specs.declared.used_planes.TheConstants.{MANY_PLANES}
use Rattle.ps_rows.proofs.UsedPlanes.{counts_same, uses_taken}
use Rattle.std.specs.Vec.{with_items}
use Rattle.std.proofs.lemmas.List.{with_items_is}
use Rattle.ps_board.specs.ColumnSets.{both_columns}
use Rattle.ps_board.proofs.Taken.{below-init}
use Rattle.ps_rows.specs.PlaneCopies.{AreMarksTaken, AreRowsOf}
use Rattle.ps_rows.specs.RowIndex.{AreRowsMarked}
use Rattle.ps_rows.proofs.Passed.{planes_counted}
use Rattle.ps_rows.proofs.RowsOfPlanes.{marked_rows, no_rows_of, rows_within, sets_of_rows}
use Rattle.ps_rows.proofs.planes.Planes.copy_rows.Goals as goal

pub copy_row_sets-requires : goal.copy_row_sets-requires
copy_row_sets-requires g c =
    let p = c.args.self.now in
    record {
      short = p.rows;
      rows = (below-init c.args.rows c.below.result c.both-within.result p.height c.below.ensures
          c.both-within.ensures).at;
      here = rw c.as_slice.ensures.len c.requires.here;
      there = rw c.as_mut_slice-words.ensures.len c.requires.there;
    }

pub take_marks-requires-clause-here : goal.take_marks-requires-clause-here
take_marks-requires-clause-here g c =
    let p = c.args.self.now in
    rw c.as_slice-2.ensures.len
    (planes_counted p.height c.args.planes p.index.len p.words.len p.some_row p.whole c.requires.here)

pub take_marks-requires-clause-there : goal.take_marks-requires-clause-there
take_marks-requires-clause-there g c =
    let o = c.args.other.now in
    let E : ℕ → Type 0 = λ h. c.args.planes * h ≤ o.words.len in
    rw c.as_mut_slice-index.ensures.len
    (planes_counted o.height c.args.planes o.index.len o.words.len o.some_row o.whole
    (subst E (sym c.requires.height) c.requires.there))

pub invariant_of-other-clause-sets : goal.invariant_of-other-clause-sets
invariant_of-other-clause-sets g c =
    let p = c.args.self.now in
    let o = c.args.other.now in
    let end : ℕ = c.args.planes in
    let within : List Bool = c.both-within.result in
    let left : List (List Bool) = c.copy_row_sets.new.others in
    let long : length left ≡ o.words.len = c.copy_row_sets.ensures.long ∙ c.as_mut_slice-words.ensures.len in
    let A : List (List Bool) → Type 0 = λ ws. AreRowsOf p.height 0 end within ws c.as_mut_slice-words.result.now left in
    let B : List (List Bool) → Type 0 = λ ws. AreRowsOf p.height 0 end within p.words.items ws left in
    let D : List (List Bool) → Type 0 = λ ws. AreRowsOf p.height 0 end within p.words.items o.words.items ws in
    sets_of_rows p.height end within p.words.items o.words.items (with_items o.words left).items p.some_row
    (subst D (sym (with_items_is o.words left long))
    (subst B c.as_mut_slice-words.ensures.value (subst A c.as_slice.ensures.value c.copy_row_sets.ensures.words)))
    p.sets o.sets

pub invariant_of-other-clause-marked : goal.invariant_of-other-clause-marked
invariant_of-other-clause-marked g c =
    let p = c.args.self.now in
    let o = c.args.other.now in
    let end : ℕ = c.args.planes in
    let within : List Bool = c.both-within.result in
    let left : List (List Bool) = c.copy_row_sets.new.others in
    let mine : List (List Bool) = c.take_marks.new.others in
    let long : length left ≡ o.words.len = c.copy_row_sets.ensures.long ∙ c.as_mut_slice-words.ensures.len in
    let high : length mine ≡ o.index.len = c.take_marks.ensures.long ∙ c.as_mut_slice-index.ensures.len in
    let A : List (List Bool) → Type 0 = λ ws. AreRowsOf p.height 0 end within ws c.as_mut_slice-words.result.now left in
    let B : List (List Bool) → Type 0 = λ ws. AreRowsOf p.height 0 end within p.words.items ws left in
    let D : List (List Bool) → Type 0 = λ ws. AreRowsOf p.height 0 end within p.words.items o.words.items ws in
    let copied : AreRowsOf p.height 0 end within p.words.items o.words.items (with_items o.words left).items =
    subst D (sym (with_items_is o.words left long))
    (subst B c.as_mut_slice-words.ensures.value (subst A c.as_slice.ensures.value c.copy_row_sets.ensures.words)) in
    let I : List (List Bool) → Type 0 = λ ws. AreMarksTaken end within ws c.as_mut_slice-index.result.now mine in
    let J : List (List Bool) → Type 0 = λ ws. AreMarksTaken end within p.index.items ws mine in
    let K : List (List Bool) → Type 0 = λ ws. AreMarksTaken end within p.index.items o.index.items ws in
    let taken : AreMarksTaken end within p.index.items o.index.items (with_items o.index mine).items =
    subst K (sym (with_items_is o.index mine high))
    (subst J c.as_mut_slice-index.ensures.value (subst I c.as_slice-2.ensures.value c.take_marks.ensures.marks)) in
    let counted : end ≤ p.index.len =
    planes_counted p.height end p.index.len p.words.len p.some_row p.whole c.requires.here in
    let M : ℕ → Type 0 = λ h. AreRowsMarked o.index.len h o.words.items o.index.items in
    let Q : ℕ → Type 0 = λ h. AreRowsMarked o.index.len h (with_items o.words left).items
    (with_items o.index mine).items in
    subst Q (sym c.requires.height)
    (marked_rows p.index.len o.index.len p.height end within p.words.items o.words.items (with_items o.words left).items
    p.index.items o.index.items (with_items o.index mine).items p.rows counted copied taken p.marked
    (subst M c.requires.height o.marked))

pub returns-clause-words : goal.returns-clause-words
returns-clause-words g c =
    let p = c.args.self.now in
    let o = c.args.other.now in
    let end : ℕ = c.args.planes in
    let within : List Bool = c.both-within.result in
    let left : List (List Bool) = c.copy_row_sets.new.others in
    let long : length left ≡ o.words.len = c.copy_row_sets.ensures.long ∙ c.as_mut_slice-words.ensures.len in
    let A : List (List Bool) → Type 0 = λ ws. AreRowsOf p.height 0 end within ws c.as_mut_slice-words.result.now left in
    let B : List (List Bool) → Type 0 = λ ws. AreRowsOf p.height 0 end within p.words.items ws left in
    let D : List (List Bool) → Type 0 = λ ws. AreRowsOf p.height 0 end within p.words.items o.words.items ws in
    rows_within p.height 0 end c.args.rows within p.words.items o.words.items (with_items o.words left).items p.rows
    (c.both-within.ensures ∙ ap (both_columns c.args.rows) c.below.ensures)
    (subst D (sym (with_items_is o.words left long))
    (subst B c.as_mut_slice-words.ensures.value (subst A c.as_slice.ensures.value c.copy_row_sets.ensures.words)))

pub returns-clause-height : goal.returns-clause-height
returns-clause-height g c = c.requires.height

pub invariant_of-other-clause-noted : goal.invariant_of-other-clause-noted
invariant_of-other-clause-noted g c = λ many.
    let p = c.args.self.now in
    let o = c.args.other.now in
    let end : ℕ = c.args.planes in
    let within : List Bool = c.both-within.result in
    let mine : List (List Bool) = c.take_marks.new.others in
    let high : length mine ≡ o.index.len = c.take_marks.ensures.long ∙ c.as_mut_slice-index.ensures.len in
    let I : List (List Bool) → Type 0 = λ ws. AreMarksTaken end within ws c.as_mut_slice-index.result.now mine in
    let J : List (List Bool) → Type 0 = λ ws. AreMarksTaken end within p.index.items ws mine in
    let K : List (List Bool) → Type 0 = λ ws. AreMarksTaken end within p.index.items o.index.items ws in
    let taken : AreMarksTaken end within p.index.items o.index.items (with_items o.index mine).items =
    subst K (sym (with_items_is o.index mine high))
    (subst J c.as_mut_slice-index.ensures.value (subst I c.as_slice-2.ensures.value c.take_marks.ensures.marks)) in
    let M : ℕ → Type 0 = λ n. AreUsesNoted n p.index.items p.used.words.items in
    let L : ℕ → Type 0 = λ n. MANY_PLANES ≤ n in
    let same : o.index.len ≡ p.index.len = counts_same o.index.len p.index.len o.height p.height o.words.len p.words.len
    p.some_row o.whole p.whole c.requires.height c.requires.count in
    uses_taken o.index.len end within p.index.items o.index.items (with_items o.index mine).items p.used.words.items
    o.used.words.items c.join.new.self.words.items taken c.join.ensures.joined c.join.ensures.kept
    (subst M (sym same) (p.noted (subst L same many))) (o.noted many)

pub invariant_of-other-clause-room : goal.invariant_of-other-clause-room
invariant_of-other-clause-room g c = c.join.ensures.long ∙ c.args.other.now.room

pub join-requires : goal.join-requires
join-requires g c =
    let p = c.args.self.now in
    let o = c.args.other.now in
    let same : o.index.len ≡ p.index.len = counts_same o.index.len p.index.len o.height p.height o.words.len p.words.len
    p.some_row o.whole p.whole c.requires.height c.requires.count in
    p.room ∙ ap sets_for (sym same) ∙ sym o.room

pub returns-then-is_empty-clause-words : goal.returns-then-is_empty-clause-words
returns-then-is_empty-clause-words g c =
    let p = c.args.self.now in
    let o = c.args.other.now in
    rows_within p.height 0 c.args.planes c.args.rows c.both-within.result p.words.items o.words.items o.words.items
    p.rows (c.both-within.ensures ∙ ap (both_columns c.args.rows) c.below.ensures)
    (no_rows_of p.height 0 c.args.planes c.both-within.result p.words.items o.words.items p.rows
    (c.is_empty.ensures.none c.if-is_empty.true))

pub copy_marked_rows-requires : goal.copy_marked_rows-requires
copy_marked_rows-requires g c =
    record {
      many = c.are_many.ensures c.if-are_many.true;
      rows = (below-init c.args.rows c.below.result c.both-within.result c.args.self.now.height c.below.ensures
          c.both-within.ensures).at;
      height = c.requires.height;
      here = c.requires.here;
      count = c.requires.count;
    }

pub returns-then-are_many-clause-words : goal.returns-then-are_many-clause-words
returns-then-are_many-clause-words g c =
    let p = c.args.self.now in
    rows_within p.height 0 c.args.planes c.args.rows c.both-within.result p.words.items c.args.other.now.words.items
    c.copy_marked_rows.new.other.words.items p.rows
    (c.both-within.ensures ∙ ap (both_columns c.args.rows) c.below.ensures) c.copy_marked_rows.ensures.words
