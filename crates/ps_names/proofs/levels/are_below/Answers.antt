use Rattle.std.proofs.Common.{◌∙◌, rules, tests}
use Rattle.std.proofs.lemmas.Iterator.{YieldsList-from_slice}
use Rattle.std.proofs.lemmas.Iterator.Search.{all_from_yields_List}
use Rattle.ps_names.specs.Levels.{is_below}
use Rattle.ps_names.specs.declared.mention.Mention.{Mention}
use Rattle.ps_names.specs.Known.{mention_shown}
use Rattle.ps_names.proofs.common.MappedTests.{all-mapped}
use Rattle.ps_names.proofs.levels.are_below.Goals as goal

pub returns : goal.returns
returns c =
    all_from_yields_List (λ (each : Mention). is_below c.args.levels.now c.args.limit (mention_shown each)) _ _
    c.all.result c.all.ensures.ran (YieldsList-from_slice c.args.mentions.now cc) (λ x b q k. search (rules, tests))
    ∙ all-mapped (is_below c.args.levels.now c.args.limit) mention_shown c.args.mentions.now
