-- The shape of the code as the shape of the definitions.
use Rattle.std.specs.Prelude.{List, map, Option, option_map, ◌++◌}
use Rattle.ps_model.specs.rules.RuleShape as model
use Rattle.ps_rules.specs.declared.shapes.WrittenRow.{WrittenRow}
use Rattle.ps_rules.specs.declared.shapes.WrittenSide.{WrittenSide}
use Rattle.ps_rules.specs.declared.shapes.RuleShape.{RuleShape}
use Rattle.ps_rules.specs.SymbolsShown.{tokens_shown}
use Rattle.ps_rules.specs.Kinds.{parts_shown}

abbrev pub row_shown : WrittenRow → model.WrittenRow
row_shown row = record { cells = parts_shown row.cells.items; behind = tokens_shown row.behind.now }

abbrev pub rows_shown : List WrittenRow → List model.WrittenRow
rows_shown rows = map row_shown rows

abbrev pub side_shown : WrittenSide → model.WrittenSide
side_shown side = record { ahead = tokens_shown side.ahead.now; rows = rows_shown side.rows.items }

abbrev pub shape_shown : RuleShape → model.RuleShape
shape_shown shape = record { left = side_shown shape.left; right = side_shown shape.right }

-- what may be found, after what was
abbrev pub behind : {A : Type 0} → List A → Option (List A) → Option (List A)
behind before after = option_map (λ found. before ++ found) after
