-- A row that is written has a cell or more.
use Rattle.std.proofs.Common.{◌≡◌, ◌+◌, ◌<◌, Option, Some, List, [], ◌∷◌, length, map, arith}
use Rattle.std.specs.Prelude.{All, IfSome, ⊤, not}
use Rattle.std.specs.List.{count_by}
use Rattle.std.proofs.lemmas.List.Splits.{length-slice_split}
use Rattle.ps_model.specs.text.OptionSteps.{◌>>=◌, only_if, all_there}
use Rattle.ps_model.specs.rules.RuleSymbols.{Token}
use Rattle.ps_model.specs.rules.RuleShape.{has_kind, is_bar, is_close, is_open, is_arrow, cut_at, WrittenRow}
use Rattle.ps_model.specs.rules.RuleShape.{WrittenSide, RuleShape}
use Rattle.ps_model.specs.rules.RuleShape.{row_of_parts, row_of, side_of_parts, side_of, shape_of_parts, shape_of}
use Rattle.ps_laws.specs.WholeRows.{HasCells}
use Rattle.ps_laws.proofs.common.Everywhere.{All-mapped, All-always}
use Rattle.ps_laws.proofs.common.OptionalSteps.{step-each, only_if-each, all_there-each}

-- a row, and the rows of a side, and of the left of a rule
abbrev pub IsRowWithCells : WrittenRow → Type 0
IsRowWithCells row = HasCells row.cells

abbrev pub IsSideWithCells : WrittenSide → Type 0
IsSideWithCells side = All IsRowWithCells side.rows

abbrev pub IsLeftWithCells : RuleShape → Type 0
IsLeftWithCells shape = IsSideWithCells shape.left

-- what words are cut into is one part or more
cut-some : (tokens : List Token) → 0 < length (cut_at is_bar tokens)
cut-some tokens =
    let parts : length (cut_at is_bar tokens) ≡ count_by (λ token. is_bar token.symbol) tokens + 1 =
    length-slice_split (λ (token : Token). is_bar token.symbol) tokens in
    omega (arith, parts)

row_of_parts-cells : (parts : List (List Token)) → IfSome (row_of_parts parts) IsRowWithCells
row_of_parts-cells (inside ∷ behind ∷ []) = cut-some inside
row_of_parts-cells [] = tt
row_of_parts-cells (inside ∷ []) = tt
row_of_parts-cells (inside ∷ behind ∷ more ∷ others) = tt

side_of_parts-cells : (parts : List (List Token)) → IfSome (side_of_parts parts) IsSideWithCells
side_of_parts-cells [] = tt
side_of_parts-cells (ahead ∷ parts) =
    let side : List WrittenRow → WrittenSide = λ rows. record { ahead = ahead; rows = rows } in
    step-each (All IsRowWithCells) IsSideWithCells (all_there (map row_of parts)) (λ rows.
    only_if (not (has_kind is_close ahead)) (side rows))
    (all_there-each IsRowWithCells (map row_of parts)
    (All-mapped (λ (o : Option WrittenRow). IfSome o IsRowWithCells) (λ (tokens : List Token). ⊤) row_of parts
    (λ tokens t. row_of_parts-cells (cut_at is_close tokens))
    (All-always (λ (tokens : List Token). ⊤) parts (λ tokens. tt))))
    (λ rows each. only_if-each IsSideWithCells (not (has_kind is_close ahead)) (side rows) each)

side_of-cells : (tokens : List Token) → IfSome (side_of tokens) IsSideWithCells
side_of-cells tokens = side_of_parts-cells (cut_at is_open tokens)

shape_of_parts-cells : (parts : List (List Token)) → IfSome (shape_of_parts parts) IsLeftWithCells
shape_of_parts-cells (before ∷ behind ∷ []) =
    let shape : WrittenSide → WrittenSide → RuleShape = λ left right. record { left = left; right = right } in
    step-each IsSideWithCells IsLeftWithCells (side_of before) (λ left. side_of behind >>=
    (λ right. Some (shape left right))) (side_of-cells before)
    (λ left each. step-each IsSideWithCells IsLeftWithCells (side_of behind) (λ right.
    Some (shape left right)) (side_of-cells behind) (λ right others. each))
shape_of_parts-cells [] = tt
shape_of_parts-cells (before ∷ []) = tt
shape_of_parts-cells (before ∷ behind ∷ more ∷ others) = tt

-- the rows on the left of a rule
pub shape_of-cells : (tokens : List Token) → IfSome (shape_of tokens) IsLeftWithCells
shape_of-cells tokens = shape_of_parts-cells (cut_at is_arrow tokens)
