-- The objects of cells as spans of one list.
use Rattle.std.specs.Prelude.{◌≤◌, List, length, slice_range}
use Rattle.ps_model.specs.declared.pieces.ObjectId.{ObjectId}
use Rattle.ps_levels.specs.declared.cells.ObjectSpan.{ObjectSpan}

-- the objects of a span
abbrev pub objects_in : List ObjectId → ObjectSpan → List ObjectId
objects_in objects span = slice_range objects span.start span.end

-- a span doesn't reach beyond the objects
pub record IsWithin (objects : List ObjectId) (span : ObjectSpan) : Type 0 where
  pub order : span.start ≤ span.end
  pub end : span.end ≤ length objects
