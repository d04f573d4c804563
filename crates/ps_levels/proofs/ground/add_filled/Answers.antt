use Rattle.std.proofs.Common.{rules, ◌≡◌, ◌∙◌, ◌++◌, ◌∷◌, [], sym, ap, true, false, subst, ℕ, List}
use Rattle.std.specs.Prelude.{find, is_some, nat_eq, OnOk}
use Rattle.std.proofs.lemmas.List.{append-nil}
use Rattle.ps_model.specs.declared.pieces.ObjectId.{ObjectId}
use Rattle.ps_model.specs.names.Names.{layer_of}
use Rattle.ps_model.specs.board.Levels.{is_ground, with_ground}
use Rattle.ps_levels.proofs.Grounds.{has_ground, lacks_ground}
use Rattle.ps_levels.proofs.ground.add_filled.Goals as goal

pub returns-then-is_some : goal.returns-then-is_some
returns-then-is_some c =
    let names = c.args.names.now in
    let objects = c.args.objects.now in
    let same : c.object_on.result ≡ find (is_ground names) objects = c.object_on.ensures
    ∙ ap (λ (n : ℕ). find (λ object. nat_eq (layer_of names object) n) objects) c.requires in
    let found : is_some c.object_on.result ≡ true = search rules in
    let whole : with_ground names c.args.filler objects ≡ objects =
    has_ground names c.args.filler objects (ap is_some (sym same) ∙ found) in
    subst (λ (cell : List ObjectId). OnOk c.push.result (c.push.new.self ≡ c.args.cells.now ++ cell ∷ []))
    (append-nil objects ∙ sym whole) c.push.ensures

pub returns : goal.returns
returns c =
    let names = c.args.names.now in
    let objects = c.args.objects.now in
    let same : c.object_on.result ≡ find (is_ground names) objects = c.object_on.ensures
    ∙ ap (λ (n : ℕ). find (λ object. nat_eq (layer_of names object) n) objects) c.requires in
    let found : is_some c.object_on.result ≡ false = search rules in
    let whole : with_ground names c.args.filler objects ≡ objects ++ c.args.filler ∷ [] =
    lacks_ground names c.args.filler objects (ap is_some (sym same) ∙ found) in
    subst (λ (cell : List ObjectId). OnOk c.push-2.result (c.push-2.new.self ≡ c.args.cells.now ++ cell ∷ []))
    (sym whole) c.push-2.ensures
