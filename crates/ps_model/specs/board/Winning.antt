-- When a level is won by its win conditions: all of them hold of the grid. `All X on Y` holds where every cell with X
-- has Y, `Some X on Y` where some cell has both, `No X on Y` where none has. Without `on Y` every cell will do.
use Rattle.std.specs.Prelude.{Bool, true, not, Option, Some, None, List, filter}
use Rattle.std.specs.List.{list_any, list_all}
use Rattle.ps_model.specs.declared.pieces.ObjectId.{ObjectId}
use Rattle.ps_model.specs.declared.pieces.Slot.{Slot}
use Rattle.ps_model.specs.declared.rules.Quantifier.{Quantifier}
use Rattle.ps_model.specs.declared.rules.Quantifier.TheVariants as asked
use Rattle.ps_model.specs.names.Names.{Meaning, One, AllOf, AnyOf, is_among}
use Rattle.ps_model.specs.board.Grid.{Grid}
use Rattle.ps_model.specs.session.Frames.{objects_in}
use Rattle.ps_model.specs.board.Wins.{Win}

-- what a name stands for is among the objects of a cell: its object, all objects of an aggregate, some object of a
-- property
abbrev pub is_there_among : List ObjectId → Meaning → Bool
is_there_among objects (One object) = is_among objects object
is_there_among objects (AllOf line members) = list_all (is_among objects) members
is_there_among objects (AnyOf line members) = list_any (is_among objects) members

-- what a name stands for is in a cell
abbrev pub is_in : Meaning → List Slot → Bool
is_in meaning cell = is_there_among (objects_in cell) meaning

-- what the name after `on` stands for is in a cell; without such a name every cell will do
abbrev pub is_place : Option Meaning → List Slot → Bool
is_place None cell = true
is_place (Some meaning) cell = is_in meaning cell

-- none, some or all of these cells are places, as the quantifier asks
abbrev pub holds_of : Quantifier → Option Meaning → List (List Slot) → Bool
holds_of asked.No place cells = not (list_any (is_place place) cells)
holds_of asked.Some place cells = list_any (is_place place) cells
holds_of asked.All place cells = list_all (is_place place) cells

-- the win condition holds of the grid: none, some or all of the cells with X are places
abbrev pub holds : Grid → Win → Bool
holds g win = holds_of win.quantifier win.place (filter (is_in win.subject) g.cells)

-- all win conditions hold of the grid; without any they do
abbrev pub won : List Win → Grid → Bool
won wins g = list_all (holds g) wins
