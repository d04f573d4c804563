use Rattle.std.proofs.Common.{rules, ◌≡◌, ◌∙◌, ◌≤◌, ◌*◌, ℕ, Some, List, length, sym, ap, subst, arith}
use Rattle.std.proofs.Math.Nat.{mul-le-mul_left}
use Rattle.std.proofs.lemmas.Option.{same_Some}
use Rattle.ps_model.specs.board.Grid.{Grid}
use Rattle.ps_rows.specs.Packings.{IsKey, Packed, packed_grid}
use Rattle.ps_rows.specs.Planes.{AreEmptyFrom}
use Rattle.ps_rows.specs.Showing.{grid_shown, motions_from}
use Rattle.ps_rows.proofs.PackedAlike.{unpacked_alike}
use Rattle.ps_rows.proofs.Touched.{none_touched}
use Rattle.ps_rows.proofs.packing.RowPacking.unpack.Goals as goal

pub turn_keys-requires : goal.turn_keys-requires
turn_keys-requires g c = (
  search rules,
  (
    (let b = c.self.inside.start.value in
        let n = c.self.inside.noted in
        let o = c.args.board.now in
        let inv = c.self.invariant in
        let from : List ℕ = c.args.from.now.words in
        let to : List ℕ = c.args.to.now.words in
        let G : Packed → Type 0 = λ p. grid_shown o.members.table.items o.width o.planes.height o.layers
        o.planes.words.items ≡ packed_grid p from in
        let here = subst G (sym c.self.view_is) c.requires.board in
        ap (λ (grid : Grid). grid.height) here ∙ sym inv.1.0),
    (
      (let b = c.self.inside.start.value in
          let n = c.self.inside.noted in
          let o = c.args.board.now in
          let inv = c.self.invariant in
          let from : List ℕ = c.args.from.now.words in
          let to : List ℕ = c.args.to.now.words in
          let G : Packed → Type 0 = λ p. grid_shown o.members.table.items o.width o.planes.height o.layers
          o.planes.words.items ≡ packed_grid p from in
          let here = subst G (sym c.self.view_is) c.requires.board in
          let wide : n.width ≡ o.width = inv.0 ∙ sym (ap (λ (grid : Grid). grid.width) here) in
          rw wide o.narrow),
      (
        (let o = c.args.board.now in
            let count : ℕ = length o.members.table.items in
            let planes : ℕ = motions_from o.members.table.items o.layers in
            let less : count ≤ planes = omega arith in
            let more : o.planes.height * count ≤ o.planes.height * planes = mul-le-mul_left o.planes.height less in
            let whole : length o.planes.words.items ≡ planes * o.planes.height = sym o.planes.words.ok.0 ∙ o.whole in
            omega (arith, more, whole)),
        (
          (let K : Packed → Type 0 = λ p. IsKey p c.args.from.now.words in
              (subst K (sym c.self.view_is) c.requires.from).within),
          (let K : Packed → Type 0 = λ p. IsKey p c.args.to.now.words in
              (subst K (sym c.self.view_is) c.requires.to).within),
        ),
      ),
    ),
  ),
)

pub invariant_of-board-clause-objects : goal.invariant_of-board-clause-objects
invariant_of-board-clause-objects g c =
    let b = c.self.inside.start.value in
    let n = c.self.inside.noted in
    let o = c.args.board.now in
    let inv = c.self.invariant in
    let from : List ℕ = c.args.from.now.words in
    let to : List ℕ = c.args.to.now.words in
    let G : Packed → Type 0 = λ p. grid_shown o.members.table.items o.width o.planes.height o.layers
    o.planes.words.items ≡ packed_grid p from in
    let here = subst G (sym c.self.view_is) c.requires.board in
    let T : Packed → Type 0 = λ p. Some o.members.table.items ≡ Some p.table in
    let own : o.members.table.items ≡ b.members.table.items =
    same_Some o.members.table.items b.members.table.items (subst T (sym c.self.view_is) c.requires.table) in
    let F : Packed → Type 0 = λ p. IsKey p from in
    let O : Packed → Type 0 = λ p. IsKey p to in
    let now = c.turn_keys.new.planes in
    let done = unpacked_alike b.members.table.items b.width b.planes.height b.layers b.planes.words.items
    n.numbers.items (length n.places.items) from to o.members.table.items o.width o.planes.height now.height o.layers
    o.members.ranges.len n.width n.height o.planes.words.items now.words.items own
    (ap (λ (grid : Grid). grid.width) here) (ap (λ (grid : Grid). grid.height) here)
    (ap (λ (grid : Grid). grid.layers) here) o.ranges c.turn_keys.ensures.height inv.0 inv.1.0 o.planes.some_row
    (subst F (sym c.self.view_is) c.requires.from) (subst O (sym c.self.view_is) c.requires.to) here o.objects o.motions
    c.turn_keys.ensures.turned c.turn_keys.ensures.behind in
    done.0

pub invariant_of-board-clause-motions : goal.invariant_of-board-clause-motions
invariant_of-board-clause-motions g c =
    let b = c.self.inside.start.value in
    let n = c.self.inside.noted in
    let o = c.args.board.now in
    let inv = c.self.invariant in
    let from : List ℕ = c.args.from.now.words in
    let to : List ℕ = c.args.to.now.words in
    let G : Packed → Type 0 = λ p. grid_shown o.members.table.items o.width o.planes.height o.layers
    o.planes.words.items ≡ packed_grid p from in
    let here = subst G (sym c.self.view_is) c.requires.board in
    let T : Packed → Type 0 = λ p. Some o.members.table.items ≡ Some p.table in
    let own : o.members.table.items ≡ b.members.table.items =
    same_Some o.members.table.items b.members.table.items (subst T (sym c.self.view_is) c.requires.table) in
    let F : Packed → Type 0 = λ p. IsKey p from in
    let O : Packed → Type 0 = λ p. IsKey p to in
    let now = c.turn_keys.new.planes in
    let done = unpacked_alike b.members.table.items b.width b.planes.height b.layers b.planes.words.items
    n.numbers.items (length n.places.items) from to o.members.table.items o.width o.planes.height now.height o.layers
    o.members.ranges.len n.width n.height o.planes.words.items now.words.items own
    (ap (λ (grid : Grid). grid.width) here) (ap (λ (grid : Grid). grid.height) here)
    (ap (λ (grid : Grid). grid.layers) here) o.ranges c.turn_keys.ensures.height inv.0 inv.1.0 o.planes.some_row
    (subst F (sym c.self.view_is) c.requires.from) (subst O (sym c.self.view_is) c.requires.to) here o.objects o.motions
    c.turn_keys.ensures.turned c.turn_keys.ensures.behind in
    done.1.0

pub invariant_of-board-clause-rest : goal.invariant_of-board-clause-rest
invariant_of-board-clause-rest g c = λ still.
    let o = c.args.board.now in
    let now = c.turn_keys.new.planes in
    let N : ℕ → Type 0 = λ height. AreEmptyFrom (length o.members.table.items * height) now.words.items in
    subst N (sym c.turn_keys.ensures.height) (λ place far. c.turn_keys.ensures.behind place far ∙ o.rest still place far)

pub invariant_of-board-clause-noted : goal.invariant_of-board-clause-noted
invariant_of-board-clause-noted g c =
    let now = c.turn_keys.new.planes in
    none_touched now.height (length c.args.board.now.members.table.items) now.words.items
    c.start_anew.new.origin.value.items c.start_anew.new.touched
    (ap (λ words. words.items) c.start_anew.ensures.origin)

pub returns-clause-grid : goal.returns-clause-grid
returns-clause-grid g c =
    let b = c.self.inside.start.value in
    let n = c.self.inside.noted in
    let o = c.args.board.now in
    let inv = c.self.invariant in
    let from : List ℕ = c.args.from.now.words in
    let to : List ℕ = c.args.to.now.words in
    let G : Packed → Type 0 = λ p. grid_shown o.members.table.items o.width o.planes.height o.layers
    o.planes.words.items ≡ packed_grid p from in
    let here = subst G (sym c.self.view_is) c.requires.board in
    let T : Packed → Type 0 = λ p. Some o.members.table.items ≡ Some p.table in
    let own : o.members.table.items ≡ b.members.table.items =
    same_Some o.members.table.items b.members.table.items (subst T (sym c.self.view_is) c.requires.table) in
    let F : Packed → Type 0 = λ p. IsKey p from in
    let O : Packed → Type 0 = λ p. IsKey p to in
    let now = c.turn_keys.new.planes in
    let done = unpacked_alike b.members.table.items b.width b.planes.height b.layers b.planes.words.items
    n.numbers.items (length n.places.items) from to o.members.table.items o.width o.planes.height now.height o.layers
    o.members.ranges.len n.width n.height o.planes.words.items now.words.items own
    (ap (λ (grid : Grid). grid.width) here) (ap (λ (grid : Grid). grid.height) here)
    (ap (λ (grid : Grid). grid.layers) here) o.ranges c.turn_keys.ensures.height inv.0 inv.1.0 o.planes.some_row
    (subst F (sym c.self.view_is) c.requires.from) (subst O (sym c.self.view_is) c.requires.to) here o.objects o.motions
    c.turn_keys.ensures.turned c.turn_keys.ensures.behind in
    done.1.1 ∙ ap (λ (p : Packed). packed_grid p to) c.self.view_is

pub returns-clause-origin : goal.returns-clause-origin
returns-clause-origin g c =
    let b = c.self.inside.start.value in
    let n = c.self.inside.noted in
    let o = c.args.board.now in
    let inv = c.self.invariant in
    let from : List ℕ = c.args.from.now.words in
    let to : List ℕ = c.args.to.now.words in
    let G : Packed → Type 0 = λ p. grid_shown o.members.table.items o.width o.planes.height o.layers
    o.planes.words.items ≡ packed_grid p from in
    let here = subst G (sym c.self.view_is) c.requires.board in
    let T : Packed → Type 0 = λ p. Some o.members.table.items ≡ Some p.table in
    let own : o.members.table.items ≡ b.members.table.items =
    same_Some o.members.table.items b.members.table.items (subst T (sym c.self.view_is) c.requires.table) in
    let F : Packed → Type 0 = λ p. IsKey p from in
    let O : Packed → Type 0 = λ p. IsKey p to in
    let now = c.turn_keys.new.planes in
    let done = unpacked_alike b.members.table.items b.width b.planes.height b.layers b.planes.words.items
    n.numbers.items (length n.places.items) from to o.members.table.items o.width o.planes.height now.height o.layers
    o.members.ranges.len n.width n.height o.planes.words.items now.words.items own
    (ap (λ (grid : Grid). grid.width) here) (ap (λ (grid : Grid). grid.height) here)
    (ap (λ (grid : Grid). grid.layers) here) o.ranges c.turn_keys.ensures.height inv.0 inv.1.0 o.planes.some_row
    (subst F (sym c.self.view_is) c.requires.from) (subst O (sym c.self.view_is) c.requires.to) here o.objects o.motions
    c.turn_keys.ensures.turned c.turn_keys.ensures.behind in
    let same : c.start_anew.new.origin.value.items ≡ now.words.items =
    ap (λ words. words.items) c.start_anew.ensures.origin in
    rw same (done.1.1 ∙ ap (λ (p : Packed). packed_grid p to) c.self.view_is)
