use Rattle.std.proofs.Common.{◌≡◌, ◌+◌, ◌<◌, List, false, get_or, length, map, refl, rules}
use Rattle.ps_text.specs.WordViews.{text_of}
use Rattle.ps_text.specs.declared.cutting.Word.{Word}
use Rattle.ps_facts.specs.declared.signs.Sign.TheVariants.{Arrow}
use Rattle.ps_facts.specs.Signs.{has_sign}
use Rattle.ps_causes.proofs.FoundSlips.{told-broken}
use Rattle.ps_causes.proofs.broken_arrows.broken_arrow_cause.Goals as goal

pub returns : goal.returns
returns c =
    let words : List Word = c.in_ok-words.words.items in
    let within : c.in-Some.at + 1 < length words = search rules in
    let there : c.index.result.now ≡ get_or words (c.in-Some.at + 1) c.index.result.now = search rules in
    let here : c.index-2.result.now ≡ get_or words c.in-Some.at c.index-2.result.now = search rules in
    let none : has_sign Arrow (map text_of words) ≡ false = search rules in
    told-broken c.args.source.now c.args.line words c.in-Some.at (c.in-Some.at + 1) c.index.result.now
    c.index-2.result.now refl within there here c.in_ok-words.ensures.each c.in_ok-words.ensures.texts none
