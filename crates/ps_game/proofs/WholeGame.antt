-- The game and the first fault of a text, from those of its parts.
use Rattle.std.proofs.Common.{◌≡◌, ℕ, List, [], ◌∷◌, ◌++◌, Some, None, refl, sym, ap, ◌∙◌}
use Rattle.std.specs.List.{filter_map}
use Rattle.ps_model.specs.declared.texts.Section.TheVariants.{Prelude, Objects, Legend, Layers, Rules, Wins, Levels}
use Rattle.ps_model.specs.declared.faults.Fault.{Fault}
use Rattle.ps_model.specs.text.Faults.{first_fault}
use Rattle.ps_model.specs.text.Lines.{Line, lines_of}
use Rattle.ps_model.specs.text.TextFaults.{text_fault}
use Rattle.ps_model.specs.text.Preludes.{options_of, title_of}
use Rattle.ps_model.specs.text.Sections.{section_lines, header_number, heading_faults}
use Rattle.ps_model.specs.names.Names.{Names}
use Rattle.ps_model.specs.names.NamesRead.{names_read}
use Rattle.ps_model.specs.names.NameFaults.{name_faults}
use Rattle.ps_model.specs.rules.SourceRules.{SourceRule, RuleLine}
use Rattle.ps_model.specs.rules.RuleLines.{rules_read}
use Rattle.ps_model.specs.rules.RuleFaults.{rule_faults}
use Rattle.ps_model.specs.board.RulePrograms.{rule_in}
use Rattle.ps_model.specs.rules.ReadingFaults.{too_many_readings, impossible_rules, or_impossible, reading_faults}
use Rattle.ps_model.specs.session.LevelLines.{entries_read}
use Rattle.ps_model.specs.session.LevelFaults.{level_faults}
use Rattle.ps_model.specs.board.WinLines.{wins_read, win_faults}
use Rattle.ps_model.specs.game.Games.{Game, game_with, game_read, line_faults, faults, unless, game_of_lines, game}
use Rattle.ps_laws.proofs.common.FirstFaults.{first-front}

-- faults of which the front has none
behind : (front rest : List Fault) (fault : Fault) → front ≡ [] → first_fault rest ≡ Some fault →
    first_fault (front ++ rest) ≡ Some fault
behind [] rest fault none e = e
behind (first ∷ others) rest fault none e = absurd (let h = none in cc)

both_none : (front rest : List Fault) → front ≡ [] → rest ≡ [] → front ++ rest ≡ []
both_none [] rest none e = e
both_none (first ∷ others) rest none e = absurd (let h = none in cc)

-- readings ------------------------------------------------------------------------------------------------------------

too_many_first : (names : Names) (rules : List SourceRule) (told : List Fault) (fault : Fault) →
    first_fault told ≡ Some fault → first_fault (or_impossible names rules told) ≡ Some fault
too_many_first names rules [] fault e = absurd (let h = e in cc)
too_many_first names rules (first ∷ others) fault e = e

-- the first fault of readings is that of too many
pub told_too_many : (names : Names) (lines : List RuleLine) (fault : Fault) →
    first_fault (too_many_readings names 0 (filter_map rule_in lines)) ≡ Some fault →
    first_fault (reading_faults names lines) ≡ Some fault
told_too_many names lines fault e = too_many_first names (filter_map rule_in lines)
    (too_many_readings names 0 (filter_map rule_in lines)) fault e

-- where there aren't too many, it is that of the impossible rules
pub told_impossible : (names : Names) (lines : List RuleLine) →
    too_many_readings names 0 (filter_map rule_in lines) ≡ [] →
    reading_faults names lines ≡ impossible_rules names (filter_map rule_in lines)
told_impossible names lines e = ap (or_impossible names (filter_map rule_in lines)) e

-- the parts of a game -------------------------------------------------------------------------------------------------

-- the names are those of the lines, and they and all above them have no fault
pub record AreNamed (lines : List Line) (names : Names) : Type 0 where
  pub same : names ≡ names_read (section_lines lines Objects) (section_lines lines Legend) (section_lines lines Layers)
  pub headings : heading_faults lines ≡ []
  pub named : name_faults (header_number lines Objects) (section_lines lines Objects) (section_lines lines Legend)
      (section_lines lines Layers) ≡ []

pub told_by_names : (lines : List Line) (fault : Fault) → heading_faults lines ≡ [] →
    first_fault (name_faults (header_number lines Objects) (section_lines lines Objects) (section_lines lines Legend)
    (section_lines lines Layers)) ≡ Some fault → first_fault (line_faults lines) ≡ Some fault
told_by_names lines fault h e =
    behind (heading_faults lines) _ fault h (first-front
    (name_faults (header_number lines Objects) (section_lines lines Objects) (section_lines lines Legend)
    (section_lines lines Layers)) _ fault e)

-- the faults after those of the names
abbrev faults_of_rest : List Line → Names → List Fault
faults_of_rest lines names =
    rule_faults names (section_lines lines Rules)
    ++ (level_faults names (header_number lines Levels) (section_lines lines Levels) ++
    (win_faults names (section_lines lines Wins) ++ reading_faults names
    (rules_read names (section_lines lines Rules))))

-- names without a fault leave those after them
rest_is : (lines : List Line) (names : Names) → AreNamed lines names → line_faults lines ≡ faults_of_rest lines names
rest_is lines names named =
    ap (λ (front : List Fault). front ++ (name_faults (header_number lines Objects) (section_lines lines Objects)
    (section_lines lines Legend) (section_lines lines Layers) ++ faults_of_rest lines (game_read lines).names))
    named.headings
    ∙ ap (λ (front : List Fault). front ++ faults_of_rest lines (game_read lines).names) named.named
    ∙ ap (faults_of_rest lines) (sym named.same)

pub told_by_rules : (lines : List Line) (names : Names) (fault : Fault) → AreNamed lines names →
    first_fault (rule_faults names (section_lines lines Rules)) ≡ Some fault →
    first_fault (line_faults lines) ≡ Some fault
told_by_rules lines names fault named e = ap first_fault (rest_is lines names named)
    ∙ first-front (rule_faults names (section_lines lines Rules)) _ fault e

pub told_by_levels : (lines : List Line) (names : Names) (fault : Fault) → AreNamed lines names →
    rule_faults names (section_lines lines Rules) ≡ [] →
    first_fault (level_faults names (header_number lines Levels) (section_lines lines Levels)) ≡ Some fault →
    first_fault (line_faults lines) ≡ Some fault
told_by_levels lines names fault named r e =
    ap first_fault (rest_is lines names named)
    ∙ behind (rule_faults names (section_lines lines Rules)) _ fault r
    (first-front (level_faults names (header_number lines Levels) (section_lines lines Levels)) _ fault e)

-- the parts above the win conditions have no fault
pub record AreLevelled (lines : List Line) (names : Names) : Type 0 where
  pub named : AreNamed lines names
  pub ruled : rule_faults names (section_lines lines Rules) ≡ []
  pub levelled : level_faults names (header_number lines Levels) (section_lines lines Levels) ≡ []

wins_left : (lines : List Line) (names : Names) → AreLevelled lines names →
    line_faults lines ≡ win_faults names (section_lines lines Wins) ++ reading_faults names
    (rules_read names (section_lines lines Rules))
wins_left lines names levelled =
    let last : List Fault = win_faults names (section_lines lines Wins) ++ reading_faults names
    (rules_read names (section_lines lines Rules)) in
    rest_is lines names levelled.named
    ∙ ap (λ (front : List Fault). front ++ (level_faults names (header_number lines Levels)
    (section_lines lines Levels) ++ last)) levelled.ruled
    ∙ ap (λ (front : List Fault). front ++ last) levelled.levelled

pub told_by_wins : (lines : List Line) (names : Names) (fault : Fault) → AreLevelled lines names →
    first_fault (win_faults names (section_lines lines Wins)) ≡ Some fault →
    first_fault (line_faults lines) ≡ Some fault
told_by_wins lines names fault levelled e = ap first_fault (wins_left lines names levelled)
    ∙ first-front (win_faults names (section_lines lines Wins)) _ fault e

pub told_by_readings : (lines : List Line) (names : Names) (rules : List RuleLine) (fault : Fault) →
    AreLevelled lines names → win_faults names (section_lines lines Wins) ≡ [] →
    rules ≡ rules_read names (section_lines lines Rules) → first_fault (reading_faults names rules) ≡ Some fault →
    first_fault (line_faults lines) ≡ Some fault
told_by_readings lines names rules fault levelled w r e =
    ap first_fault (wins_left lines names levelled)
    ∙ behind (win_faults names (section_lines lines Wins)) _ fault w
    (ap (λ (read : List RuleLine). first_fault (reading_faults names read)) (sym r) ∙ e)

-- lines without a fault -----------------------------------------------------------------------------------------------

none_left : (lines : List Line) (names : Names) (rules : List RuleLine) → AreLevelled lines names →
    win_faults names (section_lines lines Wins) ≡ [] →
    rules ≡ rules_read names (section_lines lines Rules) → reading_faults names rules ≡ [] → line_faults lines ≡ []
none_left lines names rules levelled w r e =
    wins_left lines names levelled ∙ both_none (win_faults names (section_lines lines Wins)) _ w
    (ap (reading_faults names) (sym r) ∙ e)

unless_none : (told : List Fault) (read : Game) → told ≡ [] → unless told read ≡ Some read
unless_none told read e = ap (λ (faults : List Fault). unless faults read) e

same_game : (lines : List Line) (read : Game) → read.title ≡ title_of (section_lines lines Prelude) →
    read.options ≡ options_of (section_lines lines Prelude) →
    read.rules ≡ rules_read read.names (section_lines lines Rules) →
    read.entries ≡ entries_read read.names (section_lines lines Levels) →
    read.wins ≡ wins_read read.names (section_lines lines Wins) → game_with lines read.names ≡ read
same_game lines read t o r n s = rw (← t, ← o, ← r, ← n, ← s) refl

-- what is read of lines is their game
pub is_game : (lines : List Line) (read : Game) → AreLevelled lines read.names →
    win_faults read.names (section_lines lines Wins) ≡ [] →
    read.rules ≡ rules_read read.names (section_lines lines Rules) → reading_faults read.names read.rules ≡ [] →
    read.title ≡ title_of (section_lines lines Prelude) → read.options ≡ options_of (section_lines lines Prelude) →
    read.entries ≡ entries_read read.names (section_lines lines Levels) →
    read.wins ≡ wins_read read.names (section_lines lines Wins) →
    game_of_lines lines ≡ Some read
is_game lines read levelled w r e t o n s =
    unless_none (line_faults lines) (game_read lines) (none_left lines read.names read.rules levelled w r e)
    ∙ ap Some (ap (game_with lines) (sym levelled.named.same) ∙ same_game lines read t o r n s)

-- texts ---------------------------------------------------------------------------------------------------------------

pub told_by_text : (text : List ℕ) (fault : Fault) → text_fault text ≡ Some fault →
    first_fault (faults text) ≡ Some fault
told_by_text text fault e = rw (e, faults, first_fault) refl

pub told_by_lines : (text : List ℕ) (fault : Fault) → text_fault text ≡ None →
    first_fault (line_faults (lines_of text)) ≡ Some fault → first_fault (faults text) ≡ Some fault
told_by_lines text fault e h = rw (e, faults, first_fault) h

pub told_by_headings : (text : List ℕ) (fault : Fault) → text_fault text ≡ None →
    first_fault (heading_faults (lines_of text)) ≡ Some fault → first_fault (faults text) ≡ Some fault
told_by_headings text fault e h = told_by_lines text fault e (first-front (heading_faults (lines_of text)) _ fault h)

pub game_by_lines : (text : List ℕ) (read : Game) → text_fault text ≡ None →
    game_of_lines (lines_of text) ≡ Some read → game text ≡ Some read
game_by_lines text read e h = rw (e, game) h
