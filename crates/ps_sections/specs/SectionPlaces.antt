-- Where the lines of each section stand, by their numbers.
use Rattle.std.specs.Prelude.{◌≡◌, ℕ, ◌+◌, ◌-◌, Bool, nat_lt, List, []}
use Rattle.std.specs.List.{prefix_len}
use Rattle.ps_model.specs.declared.texts.Section.{Section}
use Rattle.ps_model.specs.declared.texts.Section.TheVariants.{Prelude, Objects, Legend, Layers, Rules, Wins, Levels}
use Rattle.ps_model.specs.text.Lines.{Line, lines_of}
use Rattle.ps_model.specs.text.LineNumbers.{HasLines, lines_between}
use Rattle.ps_model.specs.text.Sections.{rank, section_lines, header_number, heading_faults}
use Rattle.ps_sections.specs.declared.sections.Sections.{Sections}

-- the line stands above all lines of the sections from a place on
abbrev pub stands_above : ℕ → Line → Bool
stands_above place line = nat_lt (rank line.section) place

-- the number of the first line that doesn't
abbrev pub boundary : List ℕ → ℕ → ℕ
boundary text place = 1 + prefix_len (stands_above place) (lines_of text)

-- the lines of a section are those of the stretch
pub record IsSection (text : List ℕ) (section : Section) (start end : ℕ) : Type 0 where
  pub stretch : HasLines text start end
  pub same : section_lines (lines_of text) section ≡ lines_between text start end

-- the headers are well, and each section is told
pub record AreSections (text : List ℕ) (sections : Sections) : Type 0 where
  pub fine : heading_faults (lines_of text) ≡ []
  pub prelude : IsSection text Prelude sections.prelude.start sections.prelude.end
  pub objects : IsSection text Objects sections.objects.start sections.objects.end
  pub legend : IsSection text Legend sections.legend.start sections.legend.end
  pub layers : IsSection text Layers sections.layers.start sections.layers.end
  pub rules : IsSection text Rules sections.rules.start sections.rules.end
  pub wins : IsSection text Wins sections.wins.start sections.wins.end
  pub levels : IsSection text Levels sections.levels.start sections.levels.end
  -- the headers of OBJECTS and LEVELS stand right above these lines
  pub objects_header : header_number (lines_of text) Objects ≡ sections.objects.start - 1
  pub levels_header : header_number (lines_of text) Levels ≡ sections.levels.start - 1
