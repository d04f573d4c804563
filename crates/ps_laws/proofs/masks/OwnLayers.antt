-- Compiled rules of a game put its objects on their own layers, and their rows are whole as those of their sources.
use Rattle.std.proofs.Common.{◌≡◌, ℕ, ◌<◌, Option, Some, None, List, map, filter, flat_map}
use Rattle.std.specs.Prelude.{All, IfSome, ⊤}
use Rattle.std.proofs.lemmas.List.Elements.{All-append, All-filter}
use Rattle.ps_model.specs.declared.pieces.ObjectId.{ObjectId}
use Rattle.ps_model.specs.declared.compiled.Claim.{Claim}
use Rattle.ps_model.specs.names.Names.{Names, layer_of, object_count}
use Rattle.ps_model.specs.rules.SourceRules.{CellPair, SourceRule}
use Rattle.ps_model.specs.meaning.GameRules.{IsPairOf, IsRuleOf, IsReadingOf}
use Rattle.ps_model.specs.meaning.Readings.{Reading, readings}
use Rattle.ps_model.specs.meaning.Rewriting.{claims_of}
use Rattle.ps_model.specs.meaning.ReadingMeanings.{left_of_cell, right_of_cell, is_possible}
use Rattle.ps_model.specs.meaning.Compiled.{CompiledCell}
use Rattle.ps_model.specs.meaning.CompiledCells.{object_of_claim, claim_write, clear_write, is_alone}
use Rattle.ps_model.specs.meaning.CompiledRules.{compiled_cell, rule_by, compiled_rules}
use Rattle.ps_laws.specs.WholeRows.{IsWholeRow, HasWholeRows}
use Rattle.ps_laws.specs.CompiledGames.{PutsOwn, IsWriteOf, IsCompiledCellOf, IsCompiledRuleOf, CompiledRulesAreOfGames}
use Rattle.ps_laws.specs.CompiledGames.{CompiledProgramsAreOfGames}
use Rattle.ps_laws.proofs.common.WholeRows.{whole-mapped}
use Rattle.ps_laws.proofs.common.Everywhere.{All-always, All-mapped}
use Rattle.ps_laws.proofs.grids.KeptReadings.{readings-game}
use Rattle.ps_laws.proofs.grids.KeptCells.{IsClaimOf, right_claims-game}
use Rattle.ps_laws.proofs.common.RuleSections.{IsWholeRuleOf, whole_rules-game, program-each}

-- cells ---------------------------------------------------------------------------------------------------------------

-- what a claim of the game puts
claimed-own : (names : Names) (layer : ℕ) (object : Option ObjectId) →
    IfSome object (λ object. (object.0 < object_count names) × (layer_of names object ≡ layer)) →
    PutsOwn names layer (object_of_claim object)
claimed-own names layer None h = tt
claimed-own names layer (Some object) h = h

-- the compiled cell of a rule's cell
compiled_cell-game : (names : Names) (rule : SourceRule) (reading : Reading) (cell : CellPair) →
    IsReadingOf names reading → IsPairOf names cell →
    IsCompiledCellOf names (compiled_cell names rule reading cell)
compiled_cell-game names rule reading cell chosen h =
    let left : List Claim = flat_map (claims_of names) (left_of_cell names rule reading cell) in
    let right : List Claim = flat_map (claims_of names) (right_of_cell names rule reading cell) in
    All-append (IsWriteOf names) (map (claim_write left) right) (map clear_write (filter (is_alone right) left))
    (All-mapped (IsWriteOf names) (IsClaimOf names) (claim_write left) right (λ claim own.
    claimed-own names (claim.layer).0 claim.object own) (right_claims-game names rule reading cell chosen h))
    (All-mapped (IsWriteOf names) (λ (claim : Claim). ⊤) clear_write (filter (is_alone right) left) (λ claim t.
    tt) (All-always (λ (claim : Claim). ⊤) (filter (is_alone right) left) (λ claim. tt)))

-- rules ---------------------------------------------------------------------------------------------------------------

-- the compiled rule of a game's rule and a reading
rule_by-game : (names : Names) (rule : SourceRule) (reading : Reading) → IsRuleOf names rule → HasWholeRows rule →
    IsReadingOf names reading → IsCompiledRuleOf names (rule_by names rule reading)
rule_by-game names rule reading all whole chosen =
    let made : CellPair → CompiledCell = compiled_cell names rule reading in
    record {
      whole = All-mapped IsWholeRow IsWholeRow (map (map made)) rule.rows (whole-mapped made) whole;
      cells =
          All-mapped (All (All (IsCompiledCellOf names))) (All (All (IsPairOf names))) (map (map made)) rule.rows
          (λ row. All-mapped (All (IsCompiledCellOf names)) (All (IsPairOf names)) (map made) row
          (λ part. All-mapped (IsCompiledCellOf names) (IsPairOf names) made part (λ cell.
          compiled_cell-game names rule reading cell chosen))) all;
    }

pub compiled_rules-game : CompiledRulesAreOfGames
compiled_rules-game names rule all whole =
    All-mapped (IsCompiledRuleOf names) (IsReadingOf names) (rule_by names rule) _ (λ reading.
    rule_by-game names rule reading all whole)
    (All-filter (is_possible names rule) (IsReadingOf names) (readings names rule) (readings-game names rule all))

-- programs ------------------------------------------------------------------------------------------------------------

pub compiled_program-game : CompiledProgramsAreOfGames
compiled_program-game names part lines of_game whole =
    program-each (IsWholeRuleOf names) (IsCompiledRuleOf names) (compiled_rules names) (λ rule h.
    compiled_rules-game names rule h.0 h.1) part lines (whole_rules-game names lines of_game whole)
