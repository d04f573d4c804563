-- Nothing is shown yet, and the past is without pieces.
use Rattle.std.proofs.Common.{◌≡◌, ◌∙◌, ℕ, Bool, List, [], refl, sym, ap, ap₂}
use Rattle.ps_view.specs.Beginnings.{Beginning}
use Rattle.ps_view.specs.Pieces.{Piece}
use Rattle.ps_view.specs.Shown.{are_unsized, view_then}
use Rattle.ps_view.specs.Views.{View, blank_view}
use Rattle.ps_view.proofs.PiecesTaken.{begins_shown, shown_in_part}
use Rattle.ps_view.proofs.viewed.Viewed.begin.Goals as goal

pub invariant_of-result-clause-same : goal.invariant_of-result-clause-same
invariant_of-result-clause-same g c = sym (ap (λ (b : Beginning). b.reference) c.new-3.ensures.0 ∙ c.requires.1.1.1.1.1.1)

pub invariant_of-result-clause-silent : goal.invariant_of-result-clause-silent
invariant_of-result-clause-silent g c = sym (ap (λ (b : Beginning). b.keeps_size) c.new-3.ensures.0 ∙ c.requires.1.1.1.1.0)

pub invariant_of-result-clause-one_size : goal.invariant_of-result-clause-one_size
invariant_of-result-clause-one_size g c = λ _. ap are_unsized c.new-3.ensures.1

pub invariant_of-result-clause-goes_on : goal.invariant_of-result-clause-goes_on
invariant_of-result-clause-goes_on g c = λ _. c.new.ensures
    ∙ sym (ap₂ (λ (b : Beginning) (pieces : List Piece). view_then b pieces) c.new-3.ensures.0 c.new-3.ensures.1
    ∙ ap₂ blank_view c.requires.1.1.0 c.requires.1.1.1.0)

pub invariant_of-result-clause-shown : goal.invariant_of-result-clause-shown
invariant_of-result-clause-shown g c = λ _.
    begins_shown c.new-3.result.begun c.new-3.result.pieces (g.W.ByteWriter.state c.args.writer.now).contents c.new-3.ensures.1 (ap (λ (b : Beginning). b.before) c.new-3.ensures.0 ∙ c.requires.1.1.1.1.1.0)

pub invariant_of-result-clause-in_part : goal.invariant_of-result-clause-in_part
invariant_of-result-clause-in_part g c = shown_in_part c.new-3.result.begun c.new-3.result.pieces (g.W.ByteWriter.state c.args.writer.now).contents
    (begins_shown c.new-3.result.begun c.new-3.result.pieces (g.W.ByteWriter.state c.args.writer.now).contents c.new-3.ensures.1 (ap (λ (b : Beginning). b.before) c.new-3.ensures.0 ∙ c.requires.1.1.1.1.1.0))
