use Rattle.std.proofs.Common.{◌≡◌, ◌∙◌, ℕ, ◌+◌, ◌<◌, inl, inr, Bool, true, false, Option, Some, List, length, take}
use Rattle.std.proofs.Common.{drop, get_or, sym, ap, subst}
use Rattle.std.specs.Prelude.{slice_get}
use Rattle.std.proofs.lemmas.Bool.{cases_lt, false≢true}
use Rattle.std.proofs.lemmas.Option.{slice_get-get_or, slice_get_past}
use Rattle.ps_program.specs.declared.cells.CompiledCell.{CompiledCell}
use Rattle.ps_program.specs.declared.writers.Writer.{Writer}
use Rattle.ps_program.specs.Writers.{cell_writes_alone, parts_writer, writes_alone}
use Rattle.ps_places.specs.FoundStarts.{part_of}
use Rattle.ps_places.specs.PartTargets.{other_part, own_part}
use Rattle.ps_engine.proofs.WriterPlaces.{writer_known}
use Rattle.ps_engine.proofs.writing.writing_cell.Goals as goal
use Rattle.ps_engine.proofs.writing.writing_cell.Goals.{then-writer, else-writer}

cell_there : (own other : List CompiledCell) (n : ℕ) → writes_alone own n other ≡ true → n < length own
cell_there own other n alone = elim (cases_lt n (length own)) [
  | inl low ↦ low
  | inr far ↦ absurd (false≢true (ap (λ (cell : Option CompiledCell).
      cell_writes_alone cell (take n own) (drop (n + 1) own) other) (sym (slice_get_past own n far)) ∙ alone))
]

module _ (parts : List (List CompiledCell)) (writer : Writer) (known : parts_writer parts writer ≡ true)
    (part : List CompiledCell) where
  -- the part that is the writer's
  own_first : writer.leads ≡ true → part ≡ get_or parts 0 part →
      part ≡ own_part writer.leads (part_of parts 0) (part_of parts 1)
  own_first leads is = is
      ∙ ap (λ (ps : List (List CompiledCell)). get_or ps 0 part) (writer_known parts writer known).two
      ∙ ap (λ (b : Bool). own_part b (part_of parts 0) (part_of parts 1)) (sym leads)

  own_second : writer.leads ≡ false → part ≡ get_or parts 1 part →
      part ≡ own_part writer.leads (part_of parts 0) (part_of parts 1)
  own_second leads is = is
      ∙ ap (λ (ps : List (List CompiledCell)). get_or ps 1 part) (writer_known parts writer known).two
      ∙ ap (λ (b : Bool). own_part b (part_of parts 0) (part_of parts 1)) (sym leads)

  -- its cell
  low_there : part ≡ own_part writer.leads (part_of parts 0) (part_of parts 1) → writer.cell < length part
  low_there own = subst (λ (p : List CompiledCell). writer.cell < length p) (sym own)
      (cell_there (own_part writer.leads (part_of parts 0) (part_of parts 1))
      (other_part writer.leads (part_of parts 0) (part_of parts 1)) writer.cell
      (writer_known parts writer known).alone)

  cell_is : (cell : CompiledCell) → part ≡ own_part writer.leads (part_of parts 0) (part_of parts 1) →
      cell ≡ get_or part writer.cell cell →
      slice_get (own_part writer.leads (part_of parts 0) (part_of parts 1)) writer.cell ≡ Some cell
  cell_is cell own is = ap (λ (p : List CompiledCell). slice_get p writer.cell) (sym own)
      ∙ slice_get-get_or part writer.cell cell (low_there own) ∙ ap Some (sym is)

-- what stands in a slice that shows the parts
stands : (parts shown : List (List CompiledCell)) (n : ℕ) (part item : List CompiledCell) → shown ≡ parts →
    part ≡ item → item ≡ get_or shown n item → part ≡ get_or parts n part
stands parts shown n part item same e is = e ∙ is ∙ ap (λ (ps : List (List CompiledCell)). get_or ps n item) same
    ∙ ap (get_or parts n) (sym e)

pub bounds-part-writer : goal.bounds-part-writer
bounds-part-writer c = elim c.if-writer.branch [
  | then-writer w ↦ low_there c.args.row.now.parts c.args.writer c.requires c.if-writer.part.now
      (own_first c.args.row.now.parts c.args.writer c.requires c.if-writer.part.now
      w.if-writer.true (stands c.args.row.now.parts c.as_slice-parts.result.now 0
      c.if-writer.part.now w.index-parts-0.result c.as_slice-parts.ensures
      (ap (λ b. b.now) w.part-is ∙ w.as_slice-part.ensures) w.index-parts-0.is))
  | else-writer w ↦ low_there c.args.row.now.parts c.args.writer c.requires c.if-writer.part.now
      (own_second c.args.row.now.parts c.args.writer c.requires c.if-writer.part.now
      w.if-writer.false (stands c.args.row.now.parts c.as_slice-parts.result.now 1
      c.if-writer.part.now w.index-parts-1.result c.as_slice-parts.ensures
      (ap (λ b. b.now) w.part-is ∙ w.as_slice-part-else-writer.ensures) w.index-parts-1.is))
]

pub returns : goal.returns
returns c = elim c.if-writer.branch [
  | then-writer w ↦ cell_is c.args.row.now.parts c.args.writer c.requires c.if-writer.part.now
      c.index-part-writer.result
      (own_first c.args.row.now.parts c.args.writer c.requires c.if-writer.part.now
      w.if-writer.true (stands c.args.row.now.parts c.as_slice-parts.result.now 0
      c.if-writer.part.now w.index-parts-0.result c.as_slice-parts.ensures
      (ap (λ b. b.now) w.part-is ∙ w.as_slice-part.ensures) w.index-parts-0.is)) c.index-part-writer.is
  | else-writer w ↦ cell_is c.args.row.now.parts c.args.writer c.requires c.if-writer.part.now
      c.index-part-writer.result
      (own_second c.args.row.now.parts c.args.writer c.requires c.if-writer.part.now
      w.if-writer.false (stands c.args.row.now.parts c.as_slice-parts.result.now 1
      c.if-writer.part.now w.index-parts-1.result c.as_slice-parts.ensures
      (ap (λ b. b.now) w.part-is ∙ w.as_slice-part-else-writer.ensures) w.index-parts-1.is)) c.index-part-writer.is
]
