use Rattle.std.proofs.Common.{List, refl}
use Rattle.std.specs.List.{flat_map}
use Rattle.ps_model.specs.meaning.Rewriting.{claims_of}
use Rattle.ps_rules.proofs.Loops.{loop-end}
use Rattle.ps_readings.specs.declared.wanted.Wanted.{Wanted}
use Rattle.ps_readings.specs.WantedShown.{wanteds_shown}
use Rattle.ps_readings.proofs.Pieces.{list_more}
use Rattle.ps_readings.proofs.claims.claims_of_side.Goals as goal

pub loop-wanted-preserved : goal.loop-wanted-preserved
loop-wanted-preserved c =
    list_more (λ (side : List Wanted). flat_map (claims_of c.args.names.now) (wanteds_shown side))
    c.loop-wanted.claims.items c.push_claims.new.claims.items _ _ _ _ c.args.side.now c.loop-wanted.wanted-index refl
    c.loop-wanted-test.true refl c.in_ok-push_claims.ensures c.loop-wanted.invariant

pub returns : goal.returns
returns c =
    loop-end c.loop-wanted.claims.items _ (λ (side : List Wanted).
    flat_map (claims_of c.args.names.now) (wanteds_shown side)) c.args.side.now
    c.loop-wanted.wanted-index refl c.loop-wanted.invariant c.loop-wanted-test.false
