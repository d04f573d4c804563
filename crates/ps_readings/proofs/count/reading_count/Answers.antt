use Rattle.std.proofs.Common.{length, ap, sym, ◌∙◌}
use Rattle.ps_model.specs.meaning.Occurrences.{left_items}
use Rattle.ps_model.specs.meaning.Readings.{directions_of}
use Rattle.ps_model.specs.rules.SourceRules.{SourceRule}
use Rattle.ps_readings.specs.Counted.{counted}
use Rattle.ps_readings.specs.ItemWays.{item_ways}
use Rattle.ps_readings.proofs.CountedProducts.{counted-both}
use Rattle.ps_readings.proofs.ReadingProducts.{count-product}
use Rattle.ps_readings.proofs.count.reading_count.Goals as goal

pub returns : goal.returns
returns c =
    let rule : SourceRule = c.args.occurrences.now in
    c.times.ensures
    ∙ counted-both c.in_ok-directions.directions c.in_ok-ways.ways (length (directions_of rule))
    (item_ways c.args.names.now rule (left_items rule)) c.in_ok-directions.ensures c.in_ok-ways.ensures
    ∙ sym (ap counted (count-product c.args.names.now rule))
