use Rattle.std.proofs.Common.{◌≡◌, filter, map}
use Rattle.std.specs.List.{range_with_len}
use Rattle.ps_describe.specs.Descriptions.{lacks_glyph, object_of}
use Rattle.ps_describe.proofs.without_glyph.objects_without_glyph.Given as goal

-- of the objects passed by those that no glyph shows are there
abbrev pub invariant-loop-number : goal.invariant-loop-number
invariant-loop-number l = l.objects.items ≡ filter (lacks_glyph l.names) (map object_of (range_with_len 0 l.number))
