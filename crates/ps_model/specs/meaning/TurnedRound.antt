-- A rule turned round: each row is read from its other end, and the rule faces the opposite way. So what a rule does
-- upwards or leftwards, the rule turned round does downwards or rightwards: its places are the same lists of cells,
-- backwards, and in the same order; and its attempts come to the same on each grid, as do the rounds, groups, loops and
-- programs of such rules.
use Rattle.std.specs.Prelude.{List, map, reverse}
use Rattle.ps_model.specs.declared.pieces.Direction.{Direction}
use Rattle.ps_model.specs.declared.pieces.Direction.TheVariants.{Up, Down, Left, Right}
use Rattle.ps_model.specs.meaning.Directions.{opposite}
use Rattle.ps_model.specs.meaning.RuleMeanings.{RuleMeaning}
use Rattle.ps_model.specs.board.RuleSections.{section_by}
use Rattle.ps_model.specs.board.Programs.{Section}

-- turned round --------------------------------------------------------------------------------------------------------

-- a row read from its other end, whatever its cells are: its last part comes first, and each part's last cell
abbrev pub row_turned : {Cell : Type 0} → List (List Cell) → List (List Cell)
row_turned row = reverse (map reverse row)

-- a rule turned round: it faces the opposite way, and its rows are read from their other ends
abbrev pub turned_round : RuleMeaning → RuleMeaning
turned_round rule = record rule { direction = opposite rule.direction; rows = map row_turned rule.rows }

-- the rule, turned round if the direction is up or left
abbrev pub turned_from : Direction → RuleMeaning → RuleMeaning
turned_from Up rule = turned_round rule
turned_from Down rule = rule
turned_from Left rule = turned_round rule
turned_from Right rule = rule

-- the rule facing down or right: one that faces up or left is turned round, any other one is as it was
abbrev pub forwards : RuleMeaning → RuleMeaning
forwards rule = turned_from rule.direction rule

-- a section whose rules all face down or right
abbrev pub section_forwards : Section → Section
section_forwards section = section_by (map forwards) section
