use Rattle.std.proofs.Common.{◌≡◌, ◌∙◌, sym, ap, rules, tests, Bool, true, ◌&&◌, length}
use Rattle.std.specs.Prelude.{nat_le}
use Rattle.std.specs.Char.{is_ascii_digit}
use Rattle.std.specs.List.{list_all}
use Rattle.std.specs.Str.{all_ascii_digits}
use Rattle.std.proofs.lemmas.Iterator.{YieldsList-from_slice}
use Rattle.std.proofs.lemmas.Iterator.Search.{all_from_yields_List}
use Rattle.ps_sections.proofs.FewDigits.{each-digit}
use Rattle.ps_sections.proofs.flickscreen.are_few_digits.Goals as goal

pub returns : goal.returns
returns c =
    let bytes = c.args.bytes.now in
    let each : c.all.result ≡ list_all is_ascii_digit bytes =
    all_from_yields_List is_ascii_digit _ _ c.all.result c.all.ensures.ran (YieldsList-from_slice bytes cc) (λ x b q k.
    search (rules, tests)) in
    let few : nat_le 1 (length bytes) && nat_le (length bytes) 3 ≡ true = search (rules, tests) in
    each ∙ each-digit bytes ∙ sym (ap (λ (b : Bool). b && all_ascii_digits bytes) few)
