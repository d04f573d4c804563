use Rattle.std.proofs.Common.{◌∙◌, rules, tests, nat_eq}
use Rattle.std.proofs.lemmas.Iterator.{YieldsList-from_slice}
use Rattle.std.proofs.lemmas.Iterator.Search.{any_from_yields_List}
use Rattle.std.specs.Prelude.{slice_index_or}
use Rattle.ps_model.specs.declared.pieces.ObjectId.{ObjectId}
use Rattle.ps_names.proofs.common.MappedTests.{any-mapped}
use Rattle.ps_names.proofs.whole.is_some_on.Goals as goal

pub returns : goal.returns
returns c =
    any_from_yields_List (λ (object : ObjectId).
    nat_eq c.args.layer (slice_index_or c.args.layers.now object.0 0)) _ _ c.any.result c.any.ensures.ran
    (YieldsList-from_slice c.args.objects.now cc)
    (λ x b q k. search (rules, tests))
    ∙ any-mapped (nat_eq c.args.layer) (λ (object : ObjectId).
    slice_index_or c.args.layers.now object.0 0) c.args.objects.now
