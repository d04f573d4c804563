use Rattle.std.proofs.Common.{List, map, refl}
use Rattle.std.specs.List.{flat_map}
use Rattle.ps_model.specs.meaning.CompiledCells.{layered}
use Rattle.ps_model.specs.meaning.Wanted.{denied}
use Rattle.ps_rules.proofs.Loops.{loop-end}
use Rattle.ps_readings.specs.declared.wanted.Wanted.{Wanted}
use Rattle.ps_readings.specs.WantedShown.{wanted_shown, wanteds_shown}
use Rattle.ps_readings.proofs.Pieces.{mapped_piece_more}
use Rattle.ps_compile.proofs.masks.denied_of.Goals as goal

pub loop-wanted-preserved : goal.loop-wanted-preserved
loop-wanted-preserved c =
    mapped_piece_more (layered c.args.names.now) denied wanted_shown c.loop-wanted.made.items
    c.push_denied.new.made.items _ _ c.args.side.now c.loop-wanted.wanted-index c.loop-wanted-test.true
    c.in_ok-push_denied.ensures c.loop-wanted.invariant

pub returns : goal.returns
returns c =
    loop-end c.loop-wanted.made.items _ (λ (side : List Wanted).
    map (layered c.args.names.now) (flat_map denied (wanteds_shown side))) c.args.side.now
    c.loop-wanted.wanted-index refl c.loop-wanted.invariant c.loop-wanted-test.false
