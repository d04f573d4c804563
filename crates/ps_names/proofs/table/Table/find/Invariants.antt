use Rattle.std.proofs.Common.{◌≡◌, drop}
use Rattle.std.specs.Str.{bytes_eq}
use Rattle.std.specs.Map.{lookup}
use Rattle.ps_model.specs.text.Lines.{folded}
use Rattle.ps_names.specs.Tables.{entries_with}
use Rattle.ps_names.proofs.table.Table.find.Given as goal

abbrev pub invariant-loop-place : goal.invariant-loop-place
invariant-loop-place l = lookup (bytes_eq (folded l.name)) (entries_with (drop l.place l.self)) ≡ lookup
    (bytes_eq (folded l.name)) (entries_with l.self)
