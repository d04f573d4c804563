use Rattle.std.proofs.Common.{◌∙◌, rules, tests, option_map}
use Rattle.std.specs.Option.{is_none}
use Rattle.std.proofs.lemmas.Iterator.{YieldsList-from_slice}
use Rattle.std.proofs.lemmas.Iterator.Search.{any_from_yields_List}
use Rattle.ps_names.specs.Shown.{meaning_shown}
use Rattle.ps_names.proofs.common.MappedTests.{any-mapped}
use Rattle.ps_names.proofs.layers.names_nothing.Goals as goal

pub returns : goal.returns
returns c =
    any_from_yields_List (λ m. is_none (option_map (λ m. meaning_shown m.now) m)) _ _ c.any.result c.any.ensures.ran
    (YieldsList-from_slice c.args.layer.now.named.items cc) (λ x b q k. search (rules, tests))
    ∙ any-mapped is_none (λ m. option_map (λ m. meaning_shown m.now) m) c.args.layer.now.named.items
