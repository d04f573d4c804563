use Rattle.std.proofs.Common.{rules, tests, nat_eq}
use Rattle.std.proofs.lemmas.Iterator.{YieldsList-from_slice}
use Rattle.std.proofs.lemmas.Iterator.Search.{all_from_yields_List}
use Rattle.ps_model.specs.names.Names.{layer_of}
use Rattle.ps_rules.proofs.looseness.are_on_layer.Goals as goal

pub returns : goal.returns
returns c =
    all_from_yields_List (λ object. nat_eq (layer_of c.args.names.now object) c.args.layer.0) _ _ c.all.result
    c.all.ensures.ran (YieldsList-from_slice c.args.objects.now cc)
    (λ x b q k. search (rules, tests))
