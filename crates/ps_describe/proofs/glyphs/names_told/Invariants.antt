use Rattle.std.proofs.Common.{◌≡◌, ◌++◌, drop, map}
use Rattle.ps_facts.specs.NamesShown.{names_shown}
use Rattle.serde_json.specs.View.{view}
use Rattle.ps_describe.specs.Descriptions.{name_told}
use Rattle.ps_describe.proofs.glyphs.names_told.Given as goal

-- what is left comes to the whole
abbrev pub invariant-loop-object : goal.invariant-loop-object
invariant-loop-object l = map view l.told.items ++ map (name_told l.names (names_shown l.declared)) (drop l.object-index l.objects)
    ≡ map (name_told l.names (names_shown l.declared)) l.objects
