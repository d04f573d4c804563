use Rattle.std.proofs.Common.{◌≡◌, ◌∙◌, sym, ap, rules, tests, Bool, true, ◌&&◌, nat_eq, length}
use Rattle.std.specs.List.{list_all}
use Rattle.std.proofs.lemmas.Iterator.{YieldsList-from_slice}
use Rattle.std.proofs.lemmas.Iterator.Search.{all_from_yields_List}
use Rattle.ps_model.specs.names.ObjectLines.{is_sprite_byte}
use Rattle.ps_facts.proofs.objects.is_sprite_word.Goals as goal

pub returns-then-word-eq5 : goal.returns-then-word-eq5
returns-then-word-eq5 c =
    let each : c.all.result ≡ list_all is_sprite_byte c.args.word.now =
    all_from_yields_List is_sprite_byte _ _ c.all.result c.all.ensures.ran (YieldsList-from_slice c.args.word.now cc)
    (λ x b q k. search (rules, tests)) in
    let five : nat_eq (length c.args.word.now) 5 ≡ true = search (rules, tests) in
    each ∙ sym (ap (λ (b : Bool). b && list_all is_sprite_byte c.args.word.now) five)
