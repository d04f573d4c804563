use Rattle.std.proofs.Common.{sym}
use Rattle.ps_model.specs.names.Meanings as model
use Rattle.ps_names.specs.Known.{mention_shown}
use Rattle.ps_names.specs.LegendNames.{legend_shown}
use Rattle.ps_names.proofs.ends.end_behind.Goals as goal

pub returns-in-Never : goal.returns-in-Never
returns-in-Never c = c.further.ensures (legend_shown c.args.legend.now) (model.OfLine c.args.place)
    (mention_shown c.in-Some.next) (sym c.in-Some.ensures) c.end_of-end.ensures

pub returns-in-At : goal.returns-in-At
returns-in-At c = c.further-in-At.ensures (legend_shown c.args.legend.now) (model.OfLine c.args.place)
    (mention_shown c.in-Some.next) (sym c.in-Some.ensures) c.end_of-end.ensures
