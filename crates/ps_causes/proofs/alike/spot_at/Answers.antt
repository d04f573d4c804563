use Rattle.std.proofs.Common.{◌≡◌, rules, refl, true, false, map, take, ℕ, List}
use Rattle.ps_text.specs.WordViews.{text_of}
use Rattle.ps_facts.specs.declared.signs.Sign.TheVariants.{Arrow}
use Rattle.ps_facts.specs.Places.{is_inside, is_barred}
use Rattle.ps_facts.specs.Signs.{has_sign}
use Rattle.ps_causes.proofs.FoundSlips.{told-spot}
use Rattle.ps_causes.proofs.alike.spot_at.Goals as goal

pub returns : goal.returns
returns c text line each texts =
    let before : List (List ℕ) = map text_of (take c.args.at c.args.words.now) in
    let left : has_sign Arrow before ≡ false = search rules in
    let inside : is_inside before ≡ true = search rules in
    let unbarred : is_barred before ≡ false = search rules in
    told-spot text line c.args.words.now c.args.at _ _ c.requires refl each texts left inside unbarred (search rules)
