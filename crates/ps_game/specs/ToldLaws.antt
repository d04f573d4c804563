-- What holds of the faults that are told together.
use Rattle.std.specs.Prelude.{◌≡◌, ◌<◌, ◌++◌, ℕ, suc, nat_eq, is_some, true, Some, None, List, ◌∷◌, [], length}
use Rattle.std.specs.List.{IsAmong, list_any}
use Rattle.ps_model.specs.declared.faults.Fault.{Fault}
use Rattle.ps_model.specs.text.Faults.{first_fault}
use Rattle.ps_model.specs.declared.texts.Section.TheVariants.{Rules, Wins, Levels}
use Rattle.ps_model.specs.text.Lines.{Line, lines_of}
use Rattle.ps_model.specs.text.Sections.{section_lines, header_number, heading_faults}
use Rattle.ps_model.specs.text.TextFaults.{text_fault}
use Rattle.ps_model.specs.names.Names.{Names}
use Rattle.ps_model.specs.rules.RuleFaults.{rule_faults}
use Rattle.ps_model.specs.session.LevelFaults.{level_faults}
use Rattle.ps_model.specs.board.WinLines.{win_faults}
use Rattle.ps_model.specs.game.Games.{faults, game}
use Rattle.ps_game.specs.ToldFaults.{first_or, names_of_lines, faults_of_names, readings_below, rules_of_lines}
use Rattle.ps_game.specs.ToldFaults.{told_faults}

-- the first is the one that a refusal tells
abbrev pub FirstIsToldFirst : Type 0
FirstIsToldFirst = (most : ℕ) (text : List ℕ) →
    first_fault (told_faults (suc most) text) ≡ first_fault (faults text)

-- each is one that the text has
abbrev pub ToldAreFaults : Type 0
ToldAreFaults = (most : ℕ) (text : List ℕ) (fault : Fault) → IsAmong (told_faults most text) fault →
    IsAmong (faults text) fault

-- a text of which none is told is a game, and of a game none is
abbrev pub NoneOfGames : Type 0
NoneOfGames = (most : ℕ) (text : List ℕ) → is_some (game text) ≡ nat_eq (length (told_faults (suc most) text)) 0

-- the faults of the phase that fails first. Of bytes that are no text, and of headers, prelude and names, it is the
-- first fault alone; else it is all faults of RULES, LEVELS and WINCONDITIONS, and of readings where RULES has none
abbrev pub below_names : Names → List Line → List Fault
below_names names lines =
    rule_faults names (section_lines lines Rules)
    ++ (level_faults names (header_number lines Levels) (section_lines lines Levels)
    ++ (win_faults names (section_lines lines Wins)
    ++ readings_below (rule_faults names (section_lines lines Rules)) names (rules_of_lines names lines)))

abbrev pub phase_of_lines : List Line → List Fault
phase_of_lines lines =
    first_or (heading_faults lines) (first_or (faults_of_names lines) (below_names (names_of_lines lines) lines))

abbrev pub phase_faults : List ℕ → List Fault
phase_faults text = elim (text_fault text) [ Some fault ↦ fault ∷ [] | None ↦ phase_of_lines (lines_of text) ]

-- each line that has a fault in the phase tells one, where fewer than `most` are told
abbrev pub EachLineIsTold : Type 0
EachLineIsTold = (most : ℕ) (text : List ℕ) (fault : Fault) → length (told_faults most text) < most →
    IsAmong (phase_faults text) fault → list_any (λ other. nat_eq other.line fault.line) (told_faults most text) ≡ true
