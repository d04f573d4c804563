use Rattle.std.proofs.Common.{◌≡◌, ◌∙◌, ◌≤◌, List, Bool, sym, subst, ℕ}
use Rattle.ps_rows.specs.RowIndex.{AreRowsMarked}
use Rattle.ps_rows.proofs.Marked.{sets_same}
use Rattle.ps_rows.specs.UsedPlanes.{AreUsesNoted}
use Rattle.ps_rows.specs.declared.used_planes.TheConstants.{MANY_PLANES}
use Rattle.ps_rows.proofs.planes.Planes.try_copy.Goals as goal

pub invariant_of-result-clause-marked : goal.invariant_of-result-clause-marked
invariant_of-result-clause-marked g c =
    let p = c.args.self.now in
    let index = c.in_ok-index.index in
    let P : List (List Bool) → Type 0 = λ ws. AreRowsMarked index.len p.height ws index.items in
    let Q : List (List Bool) → Type 0 = λ is. AreRowsMarked index.len p.height p.words.items is in
    let N : ℕ → Type 0 = λ n. AreRowsMarked n p.height p.words.items p.index.items in
    let many : index.len ≡ p.index.len = c.in_ok-index.ensures.len ∙ c.deref-2.ensures.len in
    subst P (sym (c.in_ok-words.ensures.items ∙ c.deref.ensures.value))
    (subst Q (sym (c.in_ok-index.ensures.items ∙ c.deref-2.ensures.value)) (subst N (sym many) p.marked))

pub invariant_of-result-clause-sets : goal.invariant_of-result-clause-sets
invariant_of-result-clause-sets g c =
    sets_same c.args.self.now.words.items c.in_ok-words.words.items (c.in_ok-words.ensures.items
    ∙ c.deref.ensures.value) c.args.self.now.sets

pub invariant_of-result-clause-noted : goal.invariant_of-result-clause-noted
invariant_of-result-clause-noted g c = λ many.
    let p = c.args.self.now in
    let index = c.in_ok-index.index in
    let used = c.in_ok-used.used in
    let P : List (List Bool) → Type 0 = λ us. AreUsesNoted index.len index.items us in
    let Q : List (List Bool) → Type 0 = λ is. AreUsesNoted index.len is p.used.words.items in
    let N : ℕ → Type 0 = λ n. AreUsesNoted n p.index.items p.used.words.items in
    let M : ℕ → Type 0 = λ n. MANY_PLANES ≤ n in
    let as_many : index.len ≡ p.index.len = c.in_ok-index.ensures.len ∙ c.deref-2.ensures.len in
    subst P (sym c.in_ok-used.ensures)
    (subst Q (sym (c.in_ok-index.ensures.items ∙ c.deref-2.ensures.value))
    (subst N (sym as_many) (p.noted (subst M as_many many))))
