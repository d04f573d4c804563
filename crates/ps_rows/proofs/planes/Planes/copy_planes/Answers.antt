use Rattle.std.proofs.Common.{◌≡◌, ◌≢◌, ◌∙◌, ◌+◌, ◌-◌, ◌*◌, ◌/◌, ◌<◌, ◌≤◌, ℕ, Bool, List, length, refl, sym, ap, subst, arith}
use Rattle.ps_rows.specs.UsedPlanes.{AreUsesNoted}
use Rattle.ps_rows.specs.declared.used_planes.TheConstants.{MANY_PLANES}
use Rattle.ps_rows.proofs.UsedPlanes.{counts_same, uses_copied}
use Rattle.std.specs.Vec.{with_items}
use Rattle.std.proofs.lemmas.List.{with_items_is}
use Rattle.ps_rows.specs.PlaneCopies.{AreCopied}
use Rattle.ps_rows.specs.RowIndex.{AreRowsMarked}
use Rattle.ps_rows.proofs.Marked.{plane_indexed}
use Rattle.ps_rows.proofs.PlaneCopies.{behind_plane, marked_planes, planes_copied, sets_planes}
use Rattle.ps_rows.proofs.planes.Planes.copy_planes.Goals as goal

-- so many planes stand whole in the words, and have their words in the index
all_indexed : (count height end long : ℕ) → 0 < height → long ≡ count * height → end * height ≤ long → 0 < end →
    end ≤ count
all_indexed count height end long some whole enough one =
    let last : ℕ = end - 1 in
    let e : last + 1 ≡ end = omega (arith, one) in
    let E : ℕ → Type 0 = λ n. n * height ≤ long in
    let below : last < count = plane_indexed count height last long some whole (subst E (sym e) enough) in
    omega (arith, below, e)

-- what ends behind its start ends behind something
some_end : (first end : ℕ) → first ≤ end → first ≢ end → 0 < end
some_end first end order apart = omega arith

pub copy_sets-requires-2-clause-here : goal.copy_sets-requires-2-clause-here
copy_sets-requires-2-clause-here g c =
    let p = c.args.self.now in
    let one : 0 < c.args.end = some_end c.args.first c.args.end c.requires.order c.if-first-end.false in
    let within : c.args.end ≤ p.index.len = all_indexed p.index.len p.height c.args.end p.words.len p.some_row p.whole
    c.requires.here one in
    rw c.as_slice-2.ensures.len within

pub copy_sets-requires-2-clause-there : goal.copy_sets-requires-2-clause-there
copy_sets-requires-2-clause-there g c =
    let o = c.args.other.now in
    let one : 0 < c.args.end = some_end c.args.first c.args.end c.requires.order c.if-first-end.false in
    let E : ℕ → Type 0 = λ h. c.args.end * h ≤ o.words.len in
    let within : c.args.end ≤ o.index.len = all_indexed o.index.len o.height c.args.end o.words.len o.some_row o.whole
    (subst E (sym c.requires.height) c.requires.there) one in
    rw c.as_mut_slice-index.ensures.len within

pub invariant_of-other-clause-sets : goal.invariant_of-other-clause-sets
invariant_of-other-clause-sets g c =
    let p = c.args.self.now in
    let o = c.args.other.now in
    let left : List (List Bool) = c.copy_sets.new.others in
    let long : length left ≡ o.words.len = c.copy_sets.ensures.long ∙ c.as_mut_slice-words.ensures.len in
    let start : ℕ = c.args.first * p.height in
    let end : ℕ = c.args.end * p.height in
    let A : List (List Bool) → Type 0 = λ ws. AreCopied start end ws c.as_mut_slice-words.result.now left in
    let B : List (List Bool) → Type 0 = λ ws. AreCopied start end p.words.items ws left in
    let D : List (List Bool) → Type 0 = λ ws. AreCopied start end p.words.items o.words.items ws in
    let copied : AreCopied start end p.words.items o.words.items (with_items o.words left).items =
    subst D (sym (with_items_is o.words left long))
    (subst B c.as_mut_slice-words.ensures.value (subst A c.as_slice.ensures.value c.copy_sets.ensures.copied)) in
    sets_planes p.height c.args.first c.args.end p.words.items o.words.items (with_items o.words left).items p.some_row
    (planes_copied p.height c.args.first c.args.end p.words.items o.words.items (with_items o.words left).items copied)
    p.sets o.sets

pub invariant_of-other-clause-marked : goal.invariant_of-other-clause-marked
invariant_of-other-clause-marked g c =
    let p = c.args.self.now in
    let o = c.args.other.now in
    let left : List (List Bool) = c.copy_sets.new.others in
    let mine : List (List Bool) = c.copy_sets-2.new.others in
    let long : length left ≡ o.words.len = c.copy_sets.ensures.long ∙ c.as_mut_slice-words.ensures.len in
    let high : length mine ≡ o.index.len = c.copy_sets-2.ensures.long ∙ c.as_mut_slice-index.ensures.len in
    let start : ℕ = c.args.first * p.height in
    let end : ℕ = c.args.end * p.height in
    let A : List (List Bool) → Type 0 = λ ws. AreCopied start end ws c.as_mut_slice-words.result.now left in
    let B : List (List Bool) → Type 0 = λ ws. AreCopied start end p.words.items ws left in
    let D : List (List Bool) → Type 0 = λ ws. AreCopied start end p.words.items o.words.items ws in
    let copied : AreCopied start end p.words.items o.words.items (with_items o.words left).items =
    subst D (sym (with_items_is o.words left long))
    (subst B c.as_mut_slice-words.ensures.value (subst A c.as_slice.ensures.value c.copy_sets.ensures.copied)) in
    let I : List (List Bool) → Type 0 = λ ws. AreCopied c.args.first c.args.end ws c.as_mut_slice-index.result.now mine
    in
    let J : List (List Bool) → Type 0 = λ ws. AreCopied c.args.first c.args.end p.index.items ws mine in
    let K : List (List Bool) → Type 0 = λ ws. AreCopied c.args.first c.args.end p.index.items o.index.items ws in
    let noted : AreCopied c.args.first c.args.end p.index.items o.index.items (with_items o.index mine).items =
    subst K (sym (with_items_is o.index mine high))
    (subst J c.as_mut_slice-index.ensures.value (subst I c.as_slice-2.ensures.value c.copy_sets-2.ensures.copied)) in
    let one : 0 < c.args.end = some_end c.args.first c.args.end c.requires.order c.if-first-end.false in
    let within : c.args.end ≤ p.index.len = all_indexed p.index.len p.height c.args.end p.words.len p.some_row p.whole
    c.requires.here one in
    let M : ℕ → Type 0 = λ h. AreRowsMarked o.index.len h o.words.items o.index.items in
    let Q : ℕ → Type 0 = λ h. AreRowsMarked o.index.len h (with_items o.words left).items
    (with_items o.index mine).items in
    subst Q (sym c.requires.height)
    (marked_planes p.index.len o.index.len p.height c.args.first c.args.end p.words.items o.words.items
    (with_items o.words left).items p.index.items o.index.items (with_items o.index mine).items within
    (planes_copied p.height c.args.first c.args.end p.words.items o.words.items (with_items o.words left).items copied)
    noted p.marked (subst M c.requires.height o.marked))

pub returns-then-first-end-clause-words : goal.returns-then-first-end-clause-words
returns-then-first-end-clause-words g c =
    record {
      below = λ plane row under less. refl;
      behind = λ plane row under more. refl;
      copied = λ plane row under low high. absurd (omega (arith, low, high, c.if-first-end.true));
    }

pub returns-clause-words : goal.returns-clause-words
returns-clause-words g c =
    let p = c.args.self.now in
    let o = c.args.other.now in
    let left : List (List Bool) = c.copy_sets.new.others in
    let long : length left ≡ o.words.len = c.copy_sets.ensures.long ∙ c.as_mut_slice-words.ensures.len in
    let start : ℕ = c.args.first * p.height in
    let end : ℕ = c.args.end * p.height in
    let A : List (List Bool) → Type 0 = λ ws. AreCopied start end ws c.as_mut_slice-words.result.now left in
    let B : List (List Bool) → Type 0 = λ ws. AreCopied start end p.words.items ws left in
    let D : List (List Bool) → Type 0 = λ ws. AreCopied start end p.words.items o.words.items ws in
    planes_copied p.height c.args.first c.args.end p.words.items o.words.items (with_items o.words left).items
    (subst D (sym (with_items_is o.words left long))
    (subst B c.as_mut_slice-words.ensures.value (subst A c.as_slice.ensures.value c.copy_sets.ensures.copied)))

pub copy_sets-requires : goal.copy_sets-requires
copy_sets-requires g c =
    record {
      order = behind_plane c.args.self.now.height c.args.first c.args.end c.requires.order;
      here = rw c.as_slice.ensures.len c.requires.here;
      there = rw c.as_mut_slice-words.ensures.len c.requires.there;
    }

pub invariant_of-other-clause-whole : goal.invariant_of-other-clause-whole
invariant_of-other-clause-whole g c = c.args.other.now.whole

pub returns-clause-height : goal.returns-clause-height
returns-clause-height g c = c.requires.height

pub returns-clause-count : goal.returns-clause-count
returns-clause-count g c = refl

pub invariant_of-other-clause-noted : goal.invariant_of-other-clause-noted
invariant_of-other-clause-noted g c = λ many.
    let p = c.args.self.now in
    let o = c.args.other.now in
    let mine : List (List Bool) = c.copy_sets-2.new.others in
    let high : length mine ≡ o.index.len = c.copy_sets-2.ensures.long ∙ c.as_mut_slice-index.ensures.len in
    let I : List (List Bool) → Type 0 = λ ws. AreCopied c.args.first c.args.end ws c.as_mut_slice-index.result.now mine
    in
    let J : List (List Bool) → Type 0 = λ ws. AreCopied c.args.first c.args.end p.index.items ws mine in
    let K : List (List Bool) → Type 0 = λ ws. AreCopied c.args.first c.args.end p.index.items o.index.items ws in
    let copied : AreCopied c.args.first c.args.end p.index.items o.index.items (with_items o.index mine).items =
    subst K (sym (with_items_is o.index mine high))
    (subst J c.as_mut_slice-index.ensures.value (subst I c.as_slice-2.ensures.value c.copy_sets-2.ensures.copied)) in
    let M : ℕ → Type 0 = λ n. AreUsesNoted n p.index.items p.used.words.items in
    let L : ℕ → Type 0 = λ n. MANY_PLANES ≤ n in
    let same : o.index.len ≡ p.index.len = counts_same o.index.len p.index.len o.height p.height o.words.len p.words.len
    p.some_row o.whole p.whole c.requires.height c.requires.count in
    uses_copied o.index.len c.args.first c.args.end p.index.items o.index.items (with_items o.index mine).items
    p.used.words.items o.used.words.items copied c.requires.uses (subst M (sym same) (p.noted (subst L same many)))
    (o.noted many)

pub invariant_of-other-clause-room : goal.invariant_of-other-clause-room
invariant_of-other-clause-room g c = c.args.other.now.room

pub returns-clause-uses : goal.returns-clause-uses
returns-clause-uses g c = refl
