use Rattle.std.proofs.Common.{◌≡◌, ◌+◌, ◌<◌, ◌∙◌, ℕ, false, length, sym, arith}
use Rattle.std.proofs.lemmas.Bool.{false≢true}
use Rattle.std.proofs.lemmas.List.{get_or_read}
use Rattle.ps_board.specs.ColumnSets.{no_columns}
use Rattle.ps_rows.proofs.Marked.{plane_indexed}
use Rattle.ps_rows.proofs.UsedPlanes.{noted_first, place_below}
use Rattle.ps_rows.proofs.planes.Planes.put_row.Goals as goal

pub invariant_of-self-clause-noted : goal.invariant_of-self-clause-noted
invariant_of-self-clause-noted g c = λ many plane row below low off.
    c.args.self.now.noted many plane row below low (c.note_of_many.ensures.kept plane off)

pub invariant_of-self-clause-room : goal.invariant_of-self-clause-room
invariant_of-self-clause-room g c = c.note_of_many.ensures.long ∙ c.args.self.now.room

pub write_row-requires-clause-noted : goal.write_row-requires-clause-noted
write_row-requires-clause-noted g c = λ many off.
    let p = c.args.self.now in
    let plane : ℕ = c.args.plane in
    let counted : plane < p.index.len = plane_indexed p.index.len p.height plane p.words.len p.some_row p.whole
    c.requires.plane in
    let own : plane < length p.index.items = omega (arith, counted, p.index.ok.0) in
    absurd (false≢true (sym off ∙ noted_first p.index.len plane c.index-before.result.now p.index.items p.used.words.items
    c.note_of_many.new.self.words.items counted (get_or_read p.index.items _ _ own c.index-before.ensures no_columns)
    (c.note_of_many.ensures.noted (place_below plane p.index.len p.used.words.len many counted p.room))
    c.note_of_many.ensures.kept (p.noted many)))
