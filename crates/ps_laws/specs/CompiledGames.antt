-- What compiled rules of a game are: their rows are whole, and what a write puts is an object of the game, which it
-- puts on that object's own layer.
use Rattle.std.specs.Prelude.{◌≡◌, ℕ, ◌<◌, List, All, ⊤}
use Rattle.ps_model.specs.declared.rules.Part.{Part}
use Rattle.ps_model.specs.declared.compiled.ObjectWrite.{ObjectWrite}
use Rattle.ps_model.specs.declared.compiled.ObjectWrite.TheVariants.{Put, Leave, Clear}
use Rattle.ps_model.specs.declared.compiled.LayerWrite.{LayerWrite}
use Rattle.ps_model.specs.names.Names.{Names, layer_of, object_count}
use Rattle.ps_model.specs.rules.SourceRules.{SourceRule, RuleLine}
use Rattle.ps_model.specs.meaning.GameRules.{IsRuleOf, IsLineOf}
use Rattle.ps_model.specs.meaning.Compiled.{CompiledCell, CompiledRule, CompiledSection}
use Rattle.ps_model.specs.meaning.CompiledRules.{compiled_rules, compiled_program}
use Rattle.ps_laws.specs.EachGroup.{EachGroup}
use Rattle.ps_laws.specs.WholeRows.{IsWholeRow, HasWholeRows, IsWholeLine}

-- what is put on a layer is an object of the game that lies there
abbrev pub PutsOwn : Names → ℕ → ObjectWrite → Type 0
PutsOwn names layer (Put object) = (object.0 < object_count names) × (layer_of names object ≡ layer)
PutsOwn names layer Leave = ⊤
PutsOwn names layer Clear = ⊤

-- a write of a layer of the game
abbrev pub IsWriteOf : Names → LayerWrite → Type 0
IsWriteOf names write = PutsOwn names (write.layer).0 write.object

-- a compiled cell of the game
abbrev pub IsCompiledCellOf : Names → CompiledCell → Type 0
IsCompiledCellOf names cell = All (IsWriteOf names) cell.write.layers

-- a compiled rule of the game
pub record IsCompiledRuleOf (names : Names) (rule : CompiledRule) : Type 0 where
  pub whole : All IsWholeRow rule.rows
  pub cells : All (All (All (IsCompiledCellOf names))) rule.rows

-- a section of such rules
abbrev pub IsSectionOf : Names → CompiledSection → Type 0
IsSectionOf names section = EachGroup (All (IsCompiledRuleOf names)) section

-- the laws ------------------------------------------------------------------------------------------------------------

-- the compiled rules of a game's rule with whole rows are compiled rules of the game
abbrev pub CompiledRulesAreOfGames : Type 0
CompiledRulesAreOfGames =
    (names : Names) (rule : SourceRule) → IsRuleOf names rule → HasWholeRows rule →
    All (IsCompiledRuleOf names) (compiled_rules names rule)

-- so both programs of a game's rules are made of such rules
abbrev pub CompiledProgramsAreOfGames : Type 0
CompiledProgramsAreOfGames =
    (names : Names) (part : Part) (lines : List RuleLine) → All (IsLineOf names) lines → All IsWholeLine lines →
    All (IsSectionOf names) (compiled_program names part lines)
