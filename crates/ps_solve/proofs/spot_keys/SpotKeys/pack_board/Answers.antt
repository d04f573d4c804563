use Rattle.std.proofs.Common.{List, ℕ, map, subst}
use Rattle.ps_rows.specs.declared.packed_keys.PackedKey.{PackedKey}
use Rattle.ps_solve.specs.SpotKeys.{KeepsBoards, KeepsKeys, KeyTable}
use Rattle.ps_solve.proofs.KeptKeys.{keys_kept, spots_kept, table_of}
use Rattle.ps_solve.proofs.spot_keys.SpotKeys.pack_board.Goals as goal

pub invariant_of-self : goal.invariant_of-self
invariant_of-self g c =
    let restarts : List (List ℕ) = map (λ (key : PackedKey g.row.N). key.words) c.self.inside.restarts.keys in (
      c.self.invariant.0,
      keys_kept c.self.inside.packing c.pack.new.self restarts c.pack.ensures.kept c.self.invariant.1,
    )

pub returns-clause-kept : goal.returns-clause-kept
returns-clause-kept g c =
    let restarts : List (List ℕ) = map (λ (key : PackedKey g.row.N). key.words) c.self.inside.restarts.keys in
    subst (λ (keys : KeyTable). KeepsKeys keys (table_of c.pack.new.self restarts)) c.self.view_is
    (spots_kept c.self.inside.packing c.pack.new.self restarts c.pack.ensures.kept c.self.invariant.1)

pub returns-clause-boards : goal.returns-clause-boards
returns-clause-boards g c =
    subst (λ (keys : KeyTable). KeepsBoards keys.packed c.pack.new.self) c.self.view_is c.pack.ensures.kept
