-- Which faults of a text are told together. Bytes that are no text have one alone; so has a text by its headers, its
-- prelude or its names, as nothing else can be read right then. Else those of RULES, LEVELS and WINCONDITIONS are told,
-- and where RULES has none, those of the readings of its rules: in the order of refusals, the first of each line.
use Rattle.std.specs.Prelude.{ℕ, nat_eq, nat_lt, Bool, ◌&&◌, not, if◌then◌else◌, Some, None, List, [], ◌∷◌, ◌++◌, length}
use Rattle.std.specs.List.{filter_map, list_any}
use Rattle.ps_model.specs.declared.texts.Section.TheVariants.{Objects, Legend, Layers, Rules, Wins, Levels}
use Rattle.ps_model.specs.declared.faults.Fault.{Fault}
use Rattle.ps_model.specs.text.Faults.{first_fault}
use Rattle.ps_model.specs.text.TextFaults.{text_fault}
use Rattle.ps_model.specs.text.Lines.{Line, lines_of}
use Rattle.ps_model.specs.text.Sections.{section_lines, header_number, heading_faults}
use Rattle.ps_model.specs.names.Names.{Names}
use Rattle.ps_model.specs.names.NamesRead.{names_read}
use Rattle.ps_model.specs.names.NameFaults.{name_faults}
use Rattle.ps_model.specs.rules.SourceRules.{SourceRule}
use Rattle.ps_model.specs.rules.RuleFaults.{rule_faults}
use Rattle.ps_model.specs.rules.RuleLines.{rules_read}
use Rattle.ps_model.specs.rules.ReadingFaults.{too_many_readings, impossible_rules}
use Rattle.ps_model.specs.board.RulePrograms.{rule_in}
use Rattle.ps_rules.specs.ToldRules.{told_rules}
use Rattle.ps_levels.specs.ToldLevels.{told_levels}
use Rattle.ps_levels.specs.ToldWins.{told_wins}

-- the first alone, where there is one, or else others
abbrev pub first_or : List Fault → List Fault → List Fault
first_or [] others = others
first_or (fault ∷ faults) others = fault ∷ []

-- of readings that are too many the first alone; else all rules of which none is possible
abbrev pub told_readings : Names → List SourceRule → List Fault
told_readings names rules = first_or (too_many_readings names 0 rules) (impossible_rules names rules)

-- readings are told below no fault
abbrev pub readings_below : List Fault → Names → List SourceRule → List Fault
readings_below [] names rules = told_readings names rules
readings_below (fault ∷ others) names rules = []

-- the rules of lines
abbrev pub rules_of_lines : Names → List Line → List SourceRule
rules_of_lines names lines = filter_map rule_in (rules_read names (section_lines lines Rules))

-- those of the sections below the names
abbrev pub told_below_names : Names → List Line → List Fault
told_below_names names lines =
    told_rules names (section_lines lines Rules)
    ++ (told_levels names (header_number lines Levels) (section_lines lines Levels)
    ++ (told_wins names (section_lines lines Wins)
    ++ readings_below (rule_faults names (section_lines lines Rules)) names (rules_of_lines names lines)))

-- the names that lines declare, and the faults of those
abbrev pub names_of_lines : List Line → Names
names_of_lines lines =
    names_read (section_lines lines Objects) (section_lines lines Legend) (section_lines lines Layers)

abbrev pub faults_of_names : List Line → List Fault
faults_of_names lines =
    name_faults (header_number lines Objects) (section_lines lines Objects) (section_lines lines Legend)
    (section_lines lines Layers)

-- those of lines
abbrev pub told_of_lines : List Line → List Fault
told_of_lines lines =
    first_or (heading_faults lines) (first_or (faults_of_names lines) (told_below_names (names_of_lines lines) lines))

-- those of a text, of which one line may have several
abbrev pub told_of_text : List ℕ → List Fault
told_of_text text = elim (text_fault text) [ Some fault ↦ fault ∷ [] | None ↦ told_of_lines (lines_of text) ]

-- a fault more is told, where none of its line is, and fewer than `most` are
abbrev pub told_with : ℕ → List Fault → Fault → List Fault
told_with most told fault =
    if nat_lt (length told) most && not (list_any (λ other. nat_eq other.line fault.line) told)
    then told ++ fault ∷ []
    else told

-- the first fault of each line, of at most `most` lines, after those that are told
abbrev pub told_once : ℕ → List Fault → List Fault → List Fault
told_once most told [] = told
told_once most told (fault ∷ faults) = told_once most (told_with most told fault) faults

-- the faults of a text that are told, at most `most`
abbrev pub told_faults : ℕ → List ℕ → List Fault
told_faults most text = told_once most [] (told_of_text text)
