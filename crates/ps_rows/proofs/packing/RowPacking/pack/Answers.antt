use Rattle.std.proofs.Common.{rules, ◌≡◌, ◌∙◌, ℕ, Some, List, length, sym, ap, subst}
use Rattle.std.proofs.lemmas.Option.{same_Some}
use Rattle.ps_model.specs.board.Grid.{Grid}
use Rattle.ps_rows.specs.Packings.{IsKey, Packed, packed_grid}
use Rattle.ps_rows.specs.Showing.{grid_shown}
use Rattle.ps_rows.proofs.PackedAlike.{packed_alike}
use Rattle.ps_rows.proofs.PackedBoards.{kept_grid, kept_key}
use Rattle.ps_rows.proofs.packing.RowPacking.pack.Goals as goal

pub turn_rows-requires : goal.turn_rows-requires
turn_rows-requires g c = (
  search rules,
  (
    (let b = c.self.inside.start.value in
        let n = c.self.inside.noted in
        let f = c.args.from.now in
        let inv = c.self.invariant in
        let old : List ℕ = c.args.key.now.words in
        let G : Packed → Type 0 = λ p. grid_shown f.members.table.items f.width f.planes.height f.layers
        f.planes.words.items ≡ packed_grid p old in
        let here = subst G (sym c.self.view_is) c.requires.from in
        ap (λ (grid : Grid). grid.width) here ∙ sym inv.0),
    (
      (let b = c.self.inside.start.value in
          let n = c.self.inside.noted in
          let f = c.args.from.now in
          let inv = c.self.invariant in
          let old : List ℕ = c.args.key.now.words in
          let G : Packed → Type 0 = λ p. grid_shown f.members.table.items f.width f.planes.height f.layers
          f.planes.words.items ≡ packed_grid p old in
          let here = subst G (sym c.self.view_is) c.requires.from in
          ap (λ (grid : Grid). grid.height) here ∙ sym inv.1.0),
      (
        (c.requires.height),
        (
          (c.requires.layers),
          (
            (same_Some c.args.to.now.members.table.items c.args.from.now.members.table.items c.requires.table),
            (
              (let b = c.self.inside.start.value in
                  let n = c.self.inside.noted in
                  let f = c.args.from.now in
                  let inv = c.self.invariant in
                  let old : List ℕ = c.args.key.now.words in
                  let G : Packed → Type 0 = λ p. grid_shown f.members.table.items f.width f.planes.height f.layers
                  f.planes.words.items ≡ packed_grid p old in
                  let here = subst G (sym c.self.view_is) c.requires.from in
                  let T : Packed → Type 0 = λ p. Some f.members.table.items ≡ Some p.table in
                  let own : f.members.table.items ≡ b.members.table.items =
                  same_Some f.members.table.items b.members.table.items (subst T (sym c.self.view_is) c.requires.own) in
                  rw (own, inv.0, inv.1.0) inv.1.1),
              (let K : Packed → Type 0 = λ p. IsKey p c.args.key.now.words in
                  (subst K (sym c.self.view_is) c.requires.key).within),
            ),
          ),
        ),
      ),
    ),
  ),
)

pub invariant_of-self : goal.invariant_of-self
invariant_of-self g c = (
  c.turn_rows.ensures.width ∙ c.self.invariant.0,
  (c.turn_rows.ensures.height ∙ c.self.invariant.1.0, c.turn_rows.ensures.long ∙ c.self.invariant.1.1),
)

pub returns-clause-known : goal.returns-clause-known
returns-clause-known g c =
    let b = c.self.inside.start.value in
    let n = c.self.inside.noted in
    let f = c.args.from.now in
    let inv = c.self.invariant in
    let old : List ℕ = c.args.key.now.words in
    let G : Packed → Type 0 = λ p. grid_shown f.members.table.items f.width f.planes.height f.layers
    f.planes.words.items ≡ packed_grid p old in
    let here = subst G (sym c.self.view_is) c.requires.from in
    let T : Packed → Type 0 = λ p. Some f.members.table.items ≡ Some p.table in
    let own : f.members.table.items ≡ b.members.table.items =
    same_Some f.members.table.items b.members.table.items (subst T (sym c.self.view_is) c.requires.own) in
    let t = c.args.to.now in
    let K : Packed → Type 0 = λ p. IsKey p old in
    let key = subst K (sym c.self.view_is) c.requires.key in
    let more = c.turn_rows.new.noted in
    let done = packed_alike b.members.table.items b.width b.planes.height b.layers b.planes.words.items n.numbers.items
    (length n.places.items) more.numbers.items (length more.places.items) c.turn_rows.ensures.kept old
    c.turn_rows.new.key.words c.args.rows.now f.members.table.items t.members.table.items f.width t.width
    f.planes.height t.planes.height f.layers t.layers n.width n.height f.planes.words.items t.planes.words.items own
    (ap (λ (grid : Grid). grid.width) here) (ap (λ (grid : Grid). grid.height) here)
    (ap (λ (grid : Grid). grid.layers) here)
    (same_Some t.members.table.items f.members.table.items c.requires.table) c.requires.width c.requires.height
    c.requires.layers inv.0 inv.1.0 f.planes.some_row key here f.objects t.objects
    (c.rests.ensures c.if-not-rests.false) c.requires.only c.in_ok-turn_rows.ensures.turned in
    done.0

pub returns-clause-grid : goal.returns-clause-grid
returns-clause-grid g c =
    let b = c.self.inside.start.value in
    let n = c.self.inside.noted in
    let f = c.args.from.now in
    let inv = c.self.invariant in
    let old : List ℕ = c.args.key.now.words in
    let G : Packed → Type 0 = λ p. grid_shown f.members.table.items f.width f.planes.height f.layers
    f.planes.words.items ≡ packed_grid p old in
    let here = subst G (sym c.self.view_is) c.requires.from in
    let T : Packed → Type 0 = λ p. Some f.members.table.items ≡ Some p.table in
    let own : f.members.table.items ≡ b.members.table.items =
    same_Some f.members.table.items b.members.table.items (subst T (sym c.self.view_is) c.requires.own) in
    let t = c.args.to.now in
    let K : Packed → Type 0 = λ p. IsKey p old in
    let key = subst K (sym c.self.view_is) c.requires.key in
    let more = c.turn_rows.new.noted in
    let done = packed_alike b.members.table.items b.width b.planes.height b.layers b.planes.words.items n.numbers.items
    (length n.places.items) more.numbers.items (length more.places.items) c.turn_rows.ensures.kept old
    c.turn_rows.new.key.words c.args.rows.now f.members.table.items t.members.table.items f.width t.width
    f.planes.height t.planes.height f.layers t.layers n.width n.height f.planes.words.items t.planes.words.items own
    (ap (λ (grid : Grid). grid.width) here) (ap (λ (grid : Grid). grid.height) here)
    (ap (λ (grid : Grid). grid.layers) here)
    (same_Some t.members.table.items f.members.table.items c.requires.table) c.requires.width c.requires.height
    c.requires.layers inv.0 inv.1.0 f.planes.some_row key here f.objects t.objects
    (c.rests.ensures c.if-not-rests.false) c.requires.only c.in_ok-turn_rows.ensures.turned in
    done.1

pub returns-clause-kept : goal.returns-clause-kept
returns-clause-kept g c = λ words k.
    let b = c.self.inside.start.value in
    let n = c.self.inside.noted in
    let more = c.turn_rows.new.noted in
    let K : Packed → Type 0 = λ p. IsKey p words in
    let key = subst K (sym c.self.view_is) k in (
      kept_key b.members.table.items b.width b.planes.height b.layers b.planes.words.items n.numbers.items
          (length n.places.items) more.numbers.items (length more.places.items) c.turn_rows.ensures.kept words key,
      kept_grid b.members.table.items b.width b.planes.height b.layers b.planes.words.items n.numbers.items
          (length n.places.items) more.numbers.items (length more.places.items) c.turn_rows.ensures.kept words key
          ∙ ap (λ (p : Packed). packed_grid p words) c.self.view_is,
    )

pub returns-in_err-turn_rows-clause-kept : goal.returns-in_err-turn_rows-clause-kept
returns-in_err-turn_rows-clause-kept g c = λ words k.
    let b = c.self.inside.start.value in
    let n = c.self.inside.noted in
    let more = c.turn_rows.new.noted in
    let K : Packed → Type 0 = λ p. IsKey p words in
    let key = subst K (sym c.self.view_is) k in (
      kept_key b.members.table.items b.width b.planes.height b.layers b.planes.words.items n.numbers.items
          (length n.places.items) more.numbers.items (length more.places.items) c.turn_rows.ensures.kept words key,
      kept_grid b.members.table.items b.width b.planes.height b.layers b.planes.words.items n.numbers.items
          (length n.places.items) more.numbers.items (length more.places.items) c.turn_rows.ensures.kept words key
          ∙ ap (λ (p : Packed). packed_grid p words) c.self.view_is,
    )
