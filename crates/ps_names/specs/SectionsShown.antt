-- What the sections give, as the code keeps it.
use Rattle.std.specs.Prelude.{ℕ, List, Option}
use Rattle.ps_model.specs.names.Names.{Meaning}
use Rattle.ps_model.specs.names.Meanings.{LegendName}
use Rattle.ps_names.specs.declared.declaring.Legend.{Legend}
use Rattle.ps_names.specs.declared.sections.Declared.{Declared}
use Rattle.ps_names.specs.declared.sections.Layering.{Layering}
use Rattle.ps_names.specs.Known.{Named}
use Rattle.ps_names.specs.LegendNames.{legend_shown}
use Rattle.ps_names.specs.MeaningSteps.{meanings_shown}

-- the names of the legend, and what each stands for
abbrev pub legend_seen : Legend → List LegendName × List (Option Meaning)
legend_seen legend = (legend_shown legend.names.items, meanings_shown legend.meanings.items)

-- what objects and legend lines declare
abbrev pub declared_seen : Declared → List Named × (List LegendName × List (Option Meaning))
declared_seen declared = (declared.known, legend_seen declared.legend)

-- the layer of each object, and how many layers there are
abbrev pub layering_seen : Layering → List (Option ℕ) × ℕ
layering_seen layering = (layering.places.items, layering.count)
