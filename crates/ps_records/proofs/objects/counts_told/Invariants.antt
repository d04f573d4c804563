use Rattle.std.proofs.Common.{◌≡◌, ◌++◌, drop, map}
use Rattle.serde_json.specs.View.{view}
use Rattle.ps_records.specs.ReplayObjects.{count_told}
use Rattle.ps_records.proofs.objects.counts_told.Given as goal

-- what is left comes to the whole
abbrev pub invariant-loop-count : goal.invariant-loop-count
invariant-loop-count l =
    map view l.told.items ++ map count_told (drop l.count-index l.counts) ≡ map count_told l.counts
