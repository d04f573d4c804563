use Rattle.ps_names.specs.LegendNames.{legend_shown}
use Rattle.ps_names.proofs.mentions.LevelLaws.{flat-fall}
use Rattle.ps_names.proofs.order.fallen.Goals as goal

pub returns : goal.returns
returns c = flat-fall (legend_shown c.args.legend.now) c.new.result.items c.new.ensures.items
