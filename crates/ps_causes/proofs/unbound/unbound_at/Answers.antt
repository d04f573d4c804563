use Rattle.std.proofs.Common.{◌≡◌, rules, true, map, take, ℕ, List}
use Rattle.ps_text.specs.WordViews.{text_of}
use Rattle.ps_facts.specs.declared.signs.Sign.TheVariants.{Arrow}
use Rattle.ps_facts.specs.Signs.{has_sign}
use Rattle.ps_causes.proofs.FoundSlips.{told-unbound}
use Rattle.ps_causes.proofs.unbound.unbound_at.Goals as goal

pub returns : goal.returns
returns c text line same each texts =
    let before : List (List ℕ) = map text_of (take c.args.at c.args.words.now) in
    let right : has_sign Arrow before ≡ true = search rules in
    told-unbound text line c.args.words.now c.args.at c.in_ok-times.times c.in_ok-could.could _ c.requires each texts
    right (rw (← same) (search rules)) (rw (← same) (search rules))
    (rw (← c.text-3.ensures) (c.in_ok-could.ensures text line same each texts))
