use Rattle.std.proofs.Common.{◌∙◌, rules, tests}
use Rattle.std.proofs.lemmas.Iterator.{YieldsList-from_slice}
use Rattle.std.proofs.lemmas.Iterator.Search.{any_from_yields_List}
use Rattle.ps_model.specs.names.LegendLines.{is_equals_sign}
use Rattle.ps_text.specs.declared.cutting.Word.{Word}
use Rattle.ps_text.specs.WordViews.{text_of}
use Rattle.ps_names.proofs.common.MappedTests.{any-mapped}
use Rattle.ps_names.proofs.legend.has_sign.Goals as goal

pub returns : goal.returns
returns c =
    any_from_yields_List (λ (each : Word). is_equals_sign (text_of each)) _ _ c.any.result c.any.ensures.ran
    (YieldsList-from_slice c.args.words.now cc) (λ x b q k. search (rules, tests))
    ∙ any-mapped is_equals_sign text_of c.args.words.now
