-- The names that the code has found, as those that the text declares, and the lines of a section one by one.
use Rattle.std.specs.Prelude.{ℕ, ◌-◌, Bool, ◌&&◌, not, if◌then◌else◌, List, [], ◌∷◌, map, drop}
use Rattle.ps_model.specs.declared.texts.Section.{Section}
use Rattle.ps_model.specs.text.Lines.{Line, lines_of}
use Rattle.ps_model.specs.text.Sections.{is_of, section_lines}
use Rattle.ps_facts.specs.declared.names.Named.{Named}
use Rattle.ps_facts.specs.Declarations.{Declared, declared_at}

-- a name as the code keeps it
abbrev pub named_shown : Named → Declared
named_shown named = declared_at named.line named.name.now

abbrev pub names_shown : List Named → List Declared
names_shown names = map named_shown names

-- the line stands in the section, is there and no header
abbrev pub is_own : Section → Line → Bool
is_own section line = is_of section line && (line.is_there && not line.is_header)

-- the line, if it is the section's own
abbrev pub own_line : Section → Line → List Line
own_line section line = if is_own section line then line ∷ [] else []

-- the lines of a section from a number on
abbrev pub own_lines_from : List ℕ → Section → ℕ → List Line
own_lines_from text section number = section_lines (drop (number - 1) (lines_of text)) section
