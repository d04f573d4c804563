-- What a rule means: its possible readings in their order. A reading is impossible where a cell of one side has two
-- names of one layer, `no` aside.
use Rattle.std.specs.Prelude.{nat_eq, Bool, true, ◌&&◌, not, List, [], ◌∷◌, map, filter}
use Rattle.std.specs.List.{flat_map, list_all, list_any}
use Rattle.ps_model.specs.declared.pieces.ObjectId.{ObjectId}
use Rattle.ps_model.specs.names.Names.{Names}
use Rattle.ps_model.specs.rules.SourceRules.{CellPair, SourceRule}
use Rattle.ps_model.specs.meaning.Readings.{Reading, readings}
use Rattle.ps_model.specs.meaning.RuleMeanings.{CellMeaning, RuleMeaning}
use Rattle.ps_model.specs.meaning.Wanted.{Wanted, denied, wanted_left, wanted_right}
use Rattle.ps_model.specs.meaning.Fitting.{has}
use Rattle.ps_model.specs.meaning.Rewriting.{claims_of, rewritten_from}
use Rattle.ps_model.specs.declared.compiled.Claim.{Claim}
use Rattle.ps_model.specs.meaning.Occurrences.{cells_of}

-- what the left of a cell asks under a reading
abbrev pub left_of_cell : Names → SourceRule → Reading → CellPair → List Wanted
left_of_cell names rule reading cell = map (wanted_left names rule reading) cell.left

-- what the right of a cell asks under a reading
abbrev pub right_of_cell : Names → SourceRule → Reading → CellPair → List Wanted
right_of_cell names rule reading cell = map (wanted_right names rule cell reading) cell.right

-- what both sides of a cell ask makes a meaning
abbrev pub meaning_by : Names → List Wanted → List Wanted → CellMeaning
meaning_by names left right =
    let left_claims : List Claim = flat_map (claims_of names) left in
    let right_claims : List Claim = flat_map (claims_of names) right in
    let gone : List ObjectId = flat_map denied right in
    record {
      fits = λ cell. list_all (has names cell) left;
      rewritten = λ cell.
          rewritten_from left_claims right_claims gone 0 cell;
    }

-- the meaning of a cell under a reading
abbrev pub cell_meaning : Names → SourceRule → Reading → CellPair → CellMeaning
cell_meaning names rule reading cell =
    meaning_by names (left_of_cell names rule reading cell) (right_of_cell names rule reading cell)

-- no two claims are on one layer
abbrev pub are_apart : List Claim → Bool
are_apart [] = true
are_apart (claim ∷ others) = not (list_any (λ other. nat_eq (claim.layer).0 (other.layer).0) others) && are_apart others

-- no side of the cell names one layer twice
abbrev pub is_possible_cell : Names → SourceRule → Reading → CellPair → Bool
is_possible_cell names rule reading cell =
    are_apart (flat_map (claims_of names) (left_of_cell names rule reading cell)) && are_apart
    (flat_map (claims_of names) (right_of_cell names rule reading cell))

-- a reading is possible where no cell of one side has two names of one layer
abbrev pub is_possible : Names → SourceRule → Reading → Bool
is_possible names rule reading = list_all (is_possible_cell names rule reading) (cells_of rule)

-- the meaning of a rule under a reading
abbrev pub reading_meaning : Names → SourceRule → Reading → RuleMeaning
reading_meaning names rule reading = record {
  direction = reading.direction;
  rows = map (map (map (cell_meaning names rule reading))) rule.rows;
  rewrites = rule.rewrites;
  commands = rule.commands;
}

-- the possible readings of a rule in their order: what it means
abbrev pub meanings : Names → SourceRule → List RuleMeaning
meanings names rule = map (reading_meaning names rule) (filter (is_possible names rule) (readings names rule))

-- some reading of the rule is possible
abbrev pub has_possible : Names → SourceRule → Bool
has_possible names rule = list_any (is_possible names rule) (readings names rule)
