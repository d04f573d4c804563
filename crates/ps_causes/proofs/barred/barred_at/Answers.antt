use Rattle.std.proofs.Common.{◌≡◌, rules, true, map, take, ℕ, List}
use Rattle.ps_text.specs.WordViews.{text_of}
use Rattle.ps_facts.specs.Places.{is_barred}
use Rattle.ps_causes.proofs.FoundSlips.{told-several}
use Rattle.ps_causes.proofs.barred.barred_at.Goals as goal

pub returns : goal.returns
returns c text line same each texts =
    let before : List (List ℕ) = map text_of (take c.args.at c.args.words.now) in
    let barred : is_barred before ≡ true = search rules in
    told-several text line c.args.words.now c.args.at c.in-Some.declared _ c.requires each texts barred
    (rw (← same) (search rules))
