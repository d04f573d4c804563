use Rattle.std.proofs.Common.{◌∙◌, rules, tests, nat_eq}
use Rattle.std.proofs.lemmas.Iterator.{YieldsList-from_slice}
use Rattle.std.proofs.lemmas.Iterator.Search.{all_from_yields_List}
use Rattle.std.specs.Prelude.{slice_index_or}
use Rattle.ps_model.specs.declared.pieces.ObjectId.{ObjectId}
use Rattle.ps_names.proofs.common.MappedTests.{all-mapped}
use Rattle.ps_names.proofs.whole.are_all_on.Goals as goal

pub returns : goal.returns
returns c =
    all_from_yields_List (λ (object : ObjectId).
    nat_eq c.args.layer (slice_index_or c.args.layers.now object.0 0)) _ _ c.all.result c.all.ensures.ran
    (YieldsList-from_slice c.args.objects.now cc)
    (λ x b q k. search (rules, tests))
    ∙ all-mapped (nat_eq c.args.layer) (λ (object : ObjectId).
    slice_index_or c.args.layers.now object.0 0) c.args.objects.now
