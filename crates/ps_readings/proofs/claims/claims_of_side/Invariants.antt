use Rattle.std.proofs.Common.{◌≡◌, ◌++◌, drop}
use Rattle.std.specs.List.{flat_map}
use Rattle.ps_model.specs.meaning.Rewriting.{claims_of}
use Rattle.ps_readings.specs.WantedShown.{wanteds_shown}
use Rattle.ps_readings.proofs.claims.claims_of_side.Given as goal

abbrev pub invariant-loop-wanted : goal.invariant-loop-wanted
invariant-loop-wanted l = l.claims.items ++ flat_map (claims_of l.names) (wanteds_shown (drop l.wanted-index l.side)) ≡
    flat_map (claims_of l.names) (wanteds_shown l.side)
