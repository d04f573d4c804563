-- Games that nothing wins: there are rules, but no win condition, and none of the rules has the command `win`. A game
-- without a rule is let be, as it may be a board to walk on.
use Rattle.std.specs.Prelude.{ℕ, nat_eq, Bool, ◌&&◌, not, if◌then◌else◌, List, [], ◌∷◌, length}
use Rattle.std.specs.List.{filter_map, list_any}
use Rattle.ps_model.specs.rules.SourceRules.{SourceRule, RuleLine}
use Rattle.ps_model.specs.board.RulePrograms.{rule_in}
use Rattle.ps_model.specs.board.Wins.{Win}
use Rattle.ps_model.specs.game.Games.{Game}
use Rattle.ps_warnings.specs.declared.kinds.Warning.{Warning}
use Rattle.ps_warnings.specs.declared.kinds.WarningKind.TheVariants.{NothingWins}

-- the rules of lines
abbrev pub rules_of : List RuleLine → List SourceRule
rules_of lines = filter_map rule_in lines

-- a rule has the command `win`
abbrev pub has_win : SourceRule → Bool
has_win rule = rule.commands.win

-- there is nothing in a list
abbrev pub is_bare : {X : Type 0} → List X → Bool
is_bare list = nat_eq (length list) 0

-- nothing wins a level of these rules and win conditions, and there are rules
abbrev pub nothing_wins : List SourceRule → List Win → Bool
nothing_wins rules wins = is_bare wins && (not (is_bare rules) && not (list_any has_win rules))

-- a warning at a line, if it is so
abbrev pub warned_of_unwon : Bool → ℕ → List Warning
warned_of_unwon unwon line = if unwon then record { line = line; kind = NothingWins } ∷ [] else []

-- a game, of which the header LEVELS has that number
abbrev pub unwon_warnings : Game → ℕ → List Warning
unwon_warnings read header = warned_of_unwon (nothing_wins (rules_of read.rules) read.wins) header
