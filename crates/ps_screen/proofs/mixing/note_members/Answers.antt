use Rattle.std.proofs.Common.{◌≡◌, ◌∙◌, ◌≤◌, ℕ, List, ap, arith, length, sym}
use Rattle.std.proofs.lemmas.Bool.{false≢true}
use Rattle.std.proofs.lemmas.List.{take_all}
use Rattle.ps_model.specs.declared.pieces.ObjectId.{ObjectId}
use Rattle.ps_model.specs.names.Names.{is_among}
use Rattle.ps_screen.proofs.MixedObjects.{few_apart, noted_more}
use Rattle.ps_screen.proofs.mixing.note_members.Goals as goal

pub returns-then-objects-lt2-clause-noted : goal.returns-then-objects-lt2-clause-noted
returns-then-objects-lt2-clause-noted c = λ object other apart one two.
    absurd (false≢true (few_apart c.args.objects.now object other (omega arith) apart one two))

pub loop-object-preserved : goal.loop-object-preserved
loop-object-preserved c =
    record {
      noted = noted_more c.args.objects.now c.loop-object.object-index _ c.loop-object.mixes c.note.new.mixes
          c.loop-object-test.true c.loop-object.invariant.noted c.note.ensures.noted c.note.ensures.kept;
      kept = λ number was. c.note.ensures.kept number (c.loop-object.invariant.kept number was);
      long = c.note.ensures.long ∙ c.loop-object.invariant.long;
    }

pub returns-clause-noted : goal.returns-clause-noted
returns-clause-noted c = λ object other apart one two.
    let i : ℕ = c.loop-object.object-index in
    let objects : List ObjectId = c.args.objects.now in
    let past : length objects ≤ i = omega (arith, c.loop-object-test.false) in
    c.loop-object.invariant.noted object
    (ap (λ (xs : List ObjectId). is_among xs object) (take_all i objects past) ∙ one)
