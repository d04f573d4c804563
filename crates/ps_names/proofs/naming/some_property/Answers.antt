use Rattle.std.proofs.Common.{◌∙◌, rules, tests}
use Rattle.std.proofs.lemmas.Iterator.{YieldsList-from_slice}
use Rattle.std.proofs.lemmas.Iterator.Search.{any_from_yields_List}
use Rattle.ps_model.specs.names.Meanings.{is_property, meaning_of_mention}
use Rattle.ps_names.specs.declared.mention.Mention.{Mention}
use Rattle.ps_names.specs.Known.{mention_shown}
use Rattle.ps_names.specs.MeaningSteps.{meanings_shown}
use Rattle.ps_names.proofs.common.MappedTests.{any-mapped-twice}
use Rattle.ps_names.proofs.naming.some_property.Goals as goal

pub returns : goal.returns
returns c =
    let of : _ = meaning_of_mention (meanings_shown c.args.meanings.now) in
    any_from_yields_List (λ (mention : Mention).
    is_property (of (mention_shown mention))) _ _ c.any.result c.any.ensures.ran
    (YieldsList-from_slice c.args.mentions.now cc) (λ x b q k. search (rules, tests))
    ∙ any-mapped-twice is_property of mention_shown c.args.mentions.now
