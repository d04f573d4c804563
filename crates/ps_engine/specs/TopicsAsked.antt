-- What rules ask about, as a set of topics that has each of them.
use Rattle.std.specs.Prelude.{◌≡◌, true, Bool, List, All}
use Rattle.ps_model.specs.declared.compiled.LayeredObject.{LayeredObject}
use Rattle.ps_model.specs.declared.compiled.MotionTest.{MotionTest}
use Rattle.ps_program.specs.declared.cells.CellMask.{CellMask}
use Rattle.ps_program.specs.declared.cells.CompiledCell.{CompiledCell}
use Rattle.ps_program.specs.declared.rows.CompiledRow.{CompiledRow}
use Rattle.ps_program.specs.declared.rules.CompiledRule.{CompiledRule}
use Rattle.ps_program.specs.declared.program.CompiledSection.{CompiledSection}
use Rattle.ps_program.specs.declared.program.CompiledSection.TheVariants.{Group}
use Rattle.ps_board.specs.ColumnSets.{column_at}
use Rattle.ps_match.specs.Topics.{motion_topic, object_topic}

-- the set has an object's topic
abbrev pub HasObject : List Bool → LayeredObject → Type 0
HasObject topics object = column_at topics (object_topic (object.object).0) ≡ true

-- the set has the topic of a motion that is asked for
abbrev pub HasMotion : List Bool → MotionTest → Type 0
HasMotion topics test = column_at topics (motion_topic (test.layer).0) ≡ true

-- the set has all that a mask asks about: the objects that it needs, that it bars, and of which it needs one of each
-- list, and the motions
abbrev pub HasMask : List Bool → CellMask → Type 0
HasMask topics mask =
    All (HasObject topics) mask.needed
    × All (HasObject topics) mask.barred
    × All (All (HasObject topics)) mask.one_of
    × All (HasMotion topics) mask.motions

-- likewise for the cells of a part, for parts, for rows, for rules, and for a section that is a group
abbrev pub HasPart : List Bool → List CompiledCell → Type 0
HasPart topics part = All (λ cell. HasMask topics cell.mask) part

abbrev pub HasParts : List Bool → List (List CompiledCell) → Type 0
HasParts topics parts = All (HasPart topics) parts

abbrev pub HasRows : List Bool → List CompiledRow → Type 0
HasRows topics rows = All (λ row. HasParts topics row.parts) rows

abbrev pub HasRules : List Bool → List CompiledRule → Type 0
HasRules topics rules = All (λ rule. HasRows topics rule.rows) rules

abbrev pub HasGroup : List Bool → CompiledSection → Type 0
HasGroup topics section = (rules : List CompiledRule) → section ≡ Group rules → HasRules topics rules
