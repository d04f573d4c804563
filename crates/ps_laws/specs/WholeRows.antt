-- Rows of rules are whole: the ellipses part a row into one part or more, of which each has a cell or more, and there
-- are at most two ellipses. The rules of every game have such rows alone.
use Rattle.std.specs.Prelude.{◌≡◌, ℕ, ◌+◌, ◌<◌, ◌≤◌, Some, List, [], All, ⊤, length}
use Rattle.ps_model.specs.declared.limits.TheConstants.{ELLIPSIS_LIMIT}
use Rattle.ps_model.specs.text.Lines.{Line}
use Rattle.ps_model.specs.names.Names.{Names}
use Rattle.ps_model.specs.rules.SourceRules.{SourceRule, RuleLine, Rule, LoopStart, LoopEnd}
use Rattle.ps_model.specs.rules.RuleLines.{rules_read}
use Rattle.ps_model.specs.rules.RuleFaults.{rule_faults}
use Rattle.ps_model.specs.game.Games.{Game, game}

-- a part has a cell or more
abbrev pub HasCells : {Cell : Type 0} → List Cell → Type 0
HasCells part = 0 < length part

-- a row has one part or more, and no more than its ellipses can part; each has a cell or more
pub record IsWholeRow {Cell : Type 0} (row : List (List Cell)) : Type 0 where
  pub some : 0 < length row
  pub few : length row ≤ ELLIPSIS_LIMIT + 1
  pub cells : All HasCells row

-- each row of a rule is whole
abbrev pub HasWholeRows : SourceRule → Type 0
HasWholeRows rule = All IsWholeRow rule.rows

-- a line of RULES has a rule whose rows are whole, or none
abbrev pub IsWholeLine : RuleLine → Type 0
IsWholeLine (Rule rule) = HasWholeRows rule
IsWholeLine LoopStart = ⊤
IsWholeLine LoopEnd = ⊤

-- rules that are read from lines without faults have whole rows alone
abbrev pub RulesReadAreWhole : Type 0
RulesReadAreWhole =
    (names : Names) (lines : List Line) → rule_faults names lines ≡ [] → All IsWholeLine (rules_read names lines)

-- so have the rules of a game
abbrev pub GameRulesAreWhole : Type 0
GameRulesAreWhole = (text : List ℕ) (read : Game) → game text ≡ Some read → All IsWholeLine read.rules
