use Rattle.std.proofs.Common.{List, codes}
use Rattle.std.specs.Str.{bytes_eq}
use Rattle.std.specs.Map.{lookup}
use Rattle.ps_model.specs.declared.faults.FaultKind.TheVariants.{BadBackground, BadPlayer}
use Rattle.ps_model.specs.names.Meanings.{LegendName, is_aggregate}
use Rattle.ps_model.specs.names.NameFaults.{is_bad_background}
use Rattle.ps_names.specs.LegendNames.{legend_shown}
use Rattle.ps_names.specs.LinesShown.{objects_shown}
use Rattle.ps_names.specs.MeaningSteps.{meanings_shown}
use Rattle.ps_names.specs.Tables.{entries_with}
use Rattle.ps_names.specs.Wholes.{no_layers, missing, faults_of_lines, lines_of_name, shared_layers}
use Rattle.ps_names.proofs.wholes.SectionLaws.{first-of-five}
use Rattle.ps_names.proofs.sections.fault_of_whole.Goals as goal

pub returns : goal.returns
returns c =
    let legend : List LegendName = legend_shown c.args.legend.now.names.items in
    let entries : _ = entries_with c.args.table.now in
    rw (
      c.or-4.ensures,
      c.or-3.ensures,
      c.or-2.ensures,
      c.or.ensures,
      c.fault_of_no_layer-no_layer.ensures,
      c.fault_of_missing-missing.ensures,
      c.fault_of_background-background.ensures,
      c.fault_of_player-player.ensures,
      c.fault_of_shared_layer-shared.ensures,
      c.deref.ensures.value,
      c.deref-2.ensures.value,
      c.deref-3.ensures.value,
      c.deref-4.ensures.value,
    ) (
    first-of-five (no_layers (objects_shown c.args.objects.now) c.args.places.now) (missing c.args.header entries)
    (faults_of_lines (is_bad_background c.args.layers.now (lookup (bytes_eq (codes "background")) entries))
    BadBackground (lines_of_name legend (codes "background")))
    (faults_of_lines (is_aggregate (lookup (bytes_eq (codes "player")) entries)) BadPlayer
    (lines_of_name legend (codes "player")))
    (shared_layers c.args.layers.now legend (meanings_shown c.args.legend.now.meanings.items))
    )
