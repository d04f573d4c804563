use Rattle.std.proofs.Common.{◌≡◌, List, ℕ, map, rules, sym, subst}
use Rattle.std.proofs.lemmas.Bool.Decides.{nat_tests}
use Rattle.ps_rows.specs.Packings.{IsKey, packed_grid}
use Rattle.ps_rows.specs.declared.packed_keys.PackedKey.{PackedKey}
use Rattle.ps_solve.specs.SpotKeys.{IsRestart, KeyTable}
use Rattle.ps_solve.proofs.KeptKeys.{noted_keys, number_found, table_of}
use Rattle.ps_solve.proofs.spot_keys.SpotKeys.number_of.Goals as goal

pub invariant_of-self : goal.invariant_of-self
invariant_of-self g c =
    let word : PackedKey g.row.N → List ℕ = λ key. key.words in
    let known : IsKey c.self.inside.packing c.args.key.words =
    subst (λ (keys : KeyTable). IsKey keys.packed c.args.key.words) (sym c.self.view_is) c.requires in (
      c.self.invariant.0,
      noted_keys word c.self.inside.packing c.self.inside.restarts.keys c.note_key.new.keys.keys c.args.key
          c.note_key.ensures.kept c.self.invariant.1 known,
    )

pub invariant_of-self-in_default-try_from : goal.invariant_of-self-in_default-try_from
invariant_of-self-in_default-try_from g c =
    let word : PackedKey g.row.N → List ℕ = λ key. key.words in
    let known : IsKey c.self.inside.packing c.args.key.words =
    subst (λ (keys : KeyTable). IsKey keys.packed c.args.key.words) (sym c.self.view_is) c.requires in (
      c.self.invariant.0,
      noted_keys word c.self.inside.packing c.self.inside.restarts.keys c.note_key.new.keys.keys c.args.key
          c.note_key.ensures.kept c.self.invariant.1 known,
    )

pub invariant_of-self-2 : goal.invariant_of-self-2
invariant_of-self-2 g c =
    let word : PackedKey g.row.N → List ℕ = λ key. key.words in
    let known : IsKey c.self.inside.packing c.args.key.words =
    subst (λ (keys : KeyTable). IsKey keys.packed c.args.key.words) (sym c.self.view_is) c.requires in (
      c.self.invariant.0,
      noted_keys word c.self.inside.packing c.self.inside.restarts.keys c.note_key.new.keys.keys c.args.key
          c.note_key.ensures.kept c.self.invariant.1 known,
    )

pub returns-clause-number : goal.returns-clause-number
returns-clause-number g c =
    let word : PackedKey g.row.N → List ℕ = λ key. key.words in
    let packed = c.self.inside.packing in
    let keys : List (PackedKey g.row.N) = c.note_key.new.keys.keys in
    let found = c.in-Ok.ensures.found in
    let same : c.args.key.words ≡ found.0.words = let is = found.2 in search (rules, nat_tests) in
    let number : c.in-Ok-try_from.number ≡ c.in-Ok.place = search rules in
    let restart : IsRestart (table_of packed (map word keys)) (packed_grid packed c.args.key.words) c.in-Ok.place =
    number_found word packed keys c.args.key c.in-Ok.place found.0 found.1 same in
    subst (λ (own : KeyTable). IsRestart (table_of packed (map word keys)) (packed_grid own.packed c.args.key.words)
    c.in-Ok-try_from.number) c.self.view_is
    (subst (λ (n : ℕ). IsRestart (table_of packed (map word keys)) (packed_grid packed c.args.key.words) n) (sym number)
    restart)
