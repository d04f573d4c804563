-- A part of a row of a rule that is read off the list of its parts.
use Rattle.std.proofs.Common.{◌≡◌, ◌∙◌, ℕ, ◌<◌, List, [], length, ap, subst, sym}
use Rattle.std.specs.Prelude.{All, slice_index_or}
use Rattle.std.proofs.lemmas.List.{get_or_default}
use Rattle.std.proofs.lemmas.List.Elements.{All-get_or}
use Rattle.ps_laws.specs.WholeRows.{HasCells}
use Rattle.ps_program.specs.declared.cells.CompiledCell.{CompiledCell}
use Rattle.ps_places.specs.FoundStarts.{part_of}

pub part_read : (parts shown : List (List CompiledCell)) (item cells : List CompiledCell) (i : ℕ) → shown ≡ parts →
    item ≡ slice_index_or shown i item → cells ≡ item → i < length parts → cells ≡ part_of parts i
part_read parts shown item cells i same is shows low =
    shows ∙ is ∙ ap (λ (ps : List (List CompiledCell)). slice_index_or ps i item) same
    ∙ get_or_default parts i item [] low

pub read_whole : (parts shown : List (List CompiledCell)) (item cells : List CompiledCell) (i : ℕ) → shown ≡ parts →
    item ≡ slice_index_or shown i item → cells ≡ item → i < length parts → All HasCells parts → HasCells cells
read_whole parts shown item cells i same is shows low whole =
    subst HasCells (sym (part_read parts shown item cells i same is shows low))
    (All-get_or HasCells parts i [] low whole)
