-- The sections of a text. What stands before the first header is the prelude; then OBJECTS, LEGEND, SOUNDS,
-- COLLISIONLAYERS, RULES, WINCONDITIONS and LEVELS stand in this order. OBJECTS, COLLISIONLAYERS and LEVELS must be
-- there.
use Rattle.std.specs.Prelude.{ℕ, nat_eq, nat_lt, nat_le, Bool, ◌&&◌, not, unwrap_or, option_map, List, [], ◌∷◌, ◌++◌}
use Rattle.std.specs.Prelude.{length, filter, find}
use Rattle.std.specs.List.{list_any, list_all, flat_map}
use Rattle.ps_model.specs.declared.texts.Section.{Section}
use Rattle.ps_model.specs.declared.texts.Section.TheVariants.{Prelude, Objects, Legend, Sounds, Layers, Rules, Wins}
use Rattle.ps_model.specs.declared.texts.Section.TheVariants.{Levels}
use Rattle.ps_model.specs.declared.faults.Fault.{Fault}
use Rattle.ps_model.specs.declared.faults.FaultKind.TheVariants.{SectionOrder, NoSection, Realtime, BadFlickscreen}
use Rattle.ps_model.specs.text.Lines.{Line}
use Rattle.ps_model.specs.text.Faults.{when}
use Rattle.ps_model.specs.text.Preludes.{asks_for_real_time, is_bad_flickscreen}

-- the place of a section among the sections
abbrev pub rank : Section → ℕ
rank Prelude = 0
rank Objects = 1
rank Legend = 2
rank Sounds = 3
rank Layers = 4
rank Rules = 5
rank Wins = 6
rank Levels = 7

-- the line stands in the section, or is its header
abbrev pub is_of : Section → Line → Bool
is_of section line = nat_eq (rank section) (rank line.section)

-- the lines of a section: those that stand in it and are there, but for its header
abbrev pub section_lines : List Line → Section → List Line
section_lines lines section = filter (λ line. is_of section line && (line.is_there && not line.is_header)) lines

-- the headers of a text, from the top
abbrev pub header_lines : List Line → List Line
header_lines lines = filter (λ line. line.is_header) lines

-- one of these headers begins the section
abbrev pub has_section : List Line → Section → Bool
has_section headers section = list_any (is_of section) headers

-- the number of the line at which a section begins; 0 where it has no header
abbrev pub header_number : List Line → Section → ℕ
header_number lines section = unwrap_or (option_map (λ header.
    header.number) (find (is_of section) (header_lines lines))) 0

-- faults --------------------------------------------------------------------------------------------------------------

-- a header out of order, GM1: above it stands one of the same section or of a later one
abbrev pub is_out_of_order : List Line → Line → Bool
is_out_of_order headers header = list_any (λ above.
    nat_lt above.number header.number && nat_le (rank header.section) (rank above.section)) headers

-- real time, GM3: a line of the prelude asks for it
abbrev pub is_real_time : Line → Bool
is_real_time line = is_of Prelude line && asks_for_real_time line

-- rooms without a size, GM6: a line of the prelude asks for them, but writes no size
abbrev pub is_without_size : Line → Bool
is_without_size line = is_of Prelude line && is_bad_flickscreen line

-- a section is missing, GM2: one of the three that must be there
abbrev pub is_without_section : List Line → Bool
is_without_section headers = not (list_all (has_section headers) (Objects ∷ Layers ∷ Levels ∷ []))

-- the faults of a line as a header or as a line of the prelude, among these headers
abbrev pub heading_faults_of : List Line → Line → List Fault
heading_faults_of headers line =
    when (line.is_header && is_out_of_order headers line) SectionOrder line.number
    ++ (when (is_real_time line) Realtime line.number ++ when (is_without_size line) BadFlickscreen line.number)

-- the faults of headers and prelude, line by line; then a missing section, at the last line of the text
abbrev pub heading_faults : List Line → List Fault
heading_faults lines =
    let headers : List Line = header_lines lines in
    flat_map (heading_faults_of headers) lines ++ when (is_without_section headers) NoSection (length lines)
