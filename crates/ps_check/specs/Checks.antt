-- What a check writes of a text: that it is a game, with how many objects, layers, rules and levels it has; or its
-- first fault.
use Rattle.std.specs.Prelude.{ℕ, Some, None, List, [], ◌++◌, codes, filter, length}
use Rattle.std.specs.List.{filter_map}
use Rattle.std.specs.Fmt.{decimal}
use Rattle.ps_model.specs.declared.faults.Fault.{Fault}
use Rattle.ps_model.specs.text.Faults.{first_fault}
use Rattle.ps_model.specs.text.Refusals.{fault_line}
use Rattle.ps_model.specs.names.Names.{object_count}
use Rattle.ps_model.specs.board.RulePrograms.{rule_in}
use Rattle.ps_model.specs.session.Sessions.{is_level}
use Rattle.ps_model.specs.game.Games.{Game, faults, game}

-- how many rules a game has, as they are written; starts and ends of loops aren't counted
abbrev pub rule_count : Game → ℕ
rule_count read = length (filter_map rule_in read.rules)

-- how many levels it has; messages aren't counted
abbrev pub level_count : Game → ℕ
level_count read = length (filter is_level read.entries)

-- the words on a game of that size
abbrev pub size_words : ℕ → ℕ → ℕ → ℕ → List ℕ
size_words objects layers rules levels =
    codes "ok: objects " ++ decimal objects ++ codes ", layers " ++ decimal layers
    ++ codes ", rules " ++ decimal rules ++ codes ", levels " ++ decimal levels

-- the words on a game
abbrev pub game_words : Game → List ℕ
game_words read = size_words (object_count read.names) read.names.layer_count (rule_count read) (level_count read)

-- the words on a text with these faults: those of the first
abbrev pub refusal_words : List Fault → List ℕ
refusal_words told = elim (first_fault told) [ Some fault ↦ fault_line fault | None ↦ [] ]

-- the words on a text
abbrev pub check_words : List ℕ → List ℕ
check_words text = elim (game text) [ Some read ↦ game_words read | None ↦ refusal_words (faults text) ]

-- the line that a check writes
abbrev pub check_line : List ℕ → List ℕ
check_line text = check_words text ++ codes "\n"

-- the line on a text that is one of several, by its name
abbrev pub named_line : List ℕ → List ℕ → List ℕ
named_line name text = name ++ (codes ": " ++ check_line text)
