use Rattle.std.proofs.Common.{rules, ◌≡◌, ◌∙◌, [], sym, ap, arith, Some, None, List, Option, get_or}
use Rattle.std.specs.Prelude.{find, nat_eq, unwrap_or, Bool}
use Rattle.std.specs.Borrow.{Bor}
use Rattle.ps_model.specs.declared.pieces.ObjectId.{ObjectId}
use Rattle.ps_model.specs.names.Names.{layer_of}
use Rattle.ps_levels.proofs.Grounds.{first_here, none_here}
use Rattle.ps_levels.proofs.ground.first_on.Goals as goal

abbrev no_cell : Bor (List ObjectId)
no_cell = record { ref_ptr = (0, 0); now = [] }

pub returns-in-Some : goal.returns-in-Some
returns-in-Some c =
    let test : ObjectId → Bool = λ object. nat_eq (layer_of c.args.names.now object) c.args.layer in
    let found : find test (get_or c.args.cells.now c.loop-objects.objects-index no_cell).now ≡ Some c.in-Some.object =
    sym c.object_on.ensures ∙ c.in-Some.is in
    sym (sym c.loop-objects.invariant ∙ first_here test c.args.cells.now c.loop-objects.objects-index no_cell
    c.in-Some.object c.args.other (omega arith) found)

pub loop-objects-preserved : goal.loop-objects-preserved
loop-objects-preserved c =
    let test : ObjectId → Bool = λ object. nat_eq (layer_of c.args.names.now object) c.args.layer in
    let found : find test (get_or c.args.cells.now c.loop-objects.objects-index no_cell).now ≡ None = search rules in
    ap (λ (o : Option ObjectId). unwrap_or o c.args.other)
    (sym (none_here test c.args.cells.now c.loop-objects.objects-index no_cell (omega arith) found))
    ∙ c.loop-objects.invariant
