-- Which names a text declares, and where: the words of the name lines of OBJECTS, and the word before the `=` of a line
-- of LEGEND.
use Rattle.std.specs.Prelude.{ℕ, Bool, List, ◌++◌, map, flat_map, option_to_list}
use Rattle.std.specs.List.{list_any, IsAmong}
use Rattle.std.specs.Str.{bytes_eq}
use Rattle.ps_model.specs.declared.texts.Cut.TheVariants.{Legend as AtLegend}
use Rattle.ps_model.specs.declared.texts.Section.TheVariants.{Objects, Legend}
use Rattle.ps_model.specs.text.Words.{word_texts}
use Rattle.ps_model.specs.text.Lines.{Line, lines_of, folded}
use Rattle.ps_model.specs.text.Sections.{section_lines}
use Rattle.ps_model.specs.names.ObjectLines.{ObjectText, object_texts}
use Rattle.ps_model.specs.names.LegendLines.{name_declared}

-- a name as it is written, and the number of the line that declares it
pub record Declared : Type 0 where
  pub line : ℕ
  pub name : List ℕ

-- a name that is declared at a line
abbrev pub declared_at : ℕ → List ℕ → Declared
declared_at line name = record { line = line; name = name }

-- names that are declared at a line
abbrev pub declared_in : ℕ → List (List ℕ) → List Declared
declared_in line names = map (declared_at line) names

-- the names of an object
abbrev pub names_of_object : ObjectText → List Declared
names_of_object object = declared_in object.line object.words

-- the name that a line of LEGEND declares, if it declares one
abbrev pub names_of_line : Line → List Declared
names_of_line line = declared_in line.number (option_to_list (name_declared (word_texts AtLegend line.bytes)))

-- the names that OBJECTS declares
abbrev pub object_names : List Line → List Declared
object_names lines = flat_map names_of_object (object_texts (section_lines lines Objects))

-- the names that LEGEND declares
abbrev pub legend_names : List Line → List Declared
legend_names lines = flat_map names_of_line (section_lines lines Legend)

-- the names that a text declares
unfoldable pub declared : List ℕ → List Declared
declared text = object_names (lines_of text) ++ legend_names (lines_of text)

-- a name is one of these, its letters in either case
abbrev pub is_one_of : List Declared → List ℕ → Bool
is_one_of names name = list_any (λ each. bytes_eq (folded name) (folded each.name)) names

-- the text declares a name, its letters in either case
abbrev pub is_declared : List ℕ → List ℕ → Bool
is_declared text name = is_one_of (declared text) name

-- the text declares a name at a line, where it is written so
abbrev pub IsDeclaredAt : List ℕ → ℕ → List ℕ → Type 0
IsDeclaredAt text line name = IsAmong (declared text) (declared_at line name)
