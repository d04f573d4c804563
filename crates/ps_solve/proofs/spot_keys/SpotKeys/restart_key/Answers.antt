use Rattle.std.proofs.Common.{◌≡◌, List, ℕ, Some, slice_get, sym, subst}
use Rattle.ps_rows.specs.Packings.{IsKey}
use Rattle.ps_rows.specs.declared.packed_keys.PackedKey.{PackedKey}
use Rattle.ps_solve.specs.SpotKeys.{KeyTable}
use Rattle.ps_solve.proofs.KeptKeys.{key_at}
use Rattle.ps_solve.proofs.spot_keys.SpotKeys.restart_key.Goals as goal

pub returns-clause-known : goal.returns-clause-known
returns-clause-known g c =
    let words : PackedKey g.row.N → List ℕ = λ key. key.words in
    let at : slice_get c.self.inside.restarts.keys c.args.number ≡ Some c.in-Some.key.now =
    sym c.in-Some.ensures.key in
    subst (λ (keys : KeyTable). IsKey keys.packed c.in-Some.key.now.words) c.self.view_is
    (key_at words c.self.inside.packing c.self.inside.restarts.keys c.args.number c.in-Some.key.now at
    c.self.invariant.1)
