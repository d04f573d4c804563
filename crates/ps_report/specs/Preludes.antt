-- What a text says of itself above its sections, as JSON: its author, its homepage and its title.
use Rattle.std.specs.Prelude.{ℕ, Some, None, List, [], ◌∷◌, codes}
use Rattle.ps_model.specs.declared.faults.Fault.{Fault}
use Rattle.ps_model.specs.declared.texts.Section.TheVariants.{Prelude}
use Rattle.ps_model.specs.text.Lines.{Line, lines_of}
use Rattle.ps_model.specs.text.Sections.{heading_faults, section_lines}
use Rattle.ps_model.specs.text.TextFaults.{text_fault}
use Rattle.ps_report.specs.PreludeTexts.{text_after}
use Rattle.ps_report.specs.declared.preludes.Words.{Words}
use Rattle.serde_json.specs.Data.{Data, null, string}
use Rattle.serde_json.specs.View.{view}

pub record Said : Type 0 where
  pub author : Data
  pub homepage : Data
  pub title : Data

-- what words of the code say
abbrev pub words_shown : Words → Said
words_shown words =
    record { author = view words.author; homepage = view words.homepage; title = view words.title }

-- nothing is known
abbrev pub nothing_said : Said
nothing_said = record { author = null; homepage = null; title = null }

-- the lines of a prelude say this
abbrev pub said_in : List Line → Said
said_in prelude = record {
  author = string (text_after (codes "author") prelude);
  homepage = string (text_after (codes "homepage") prelude);
  title = string (text_after (codes "title") prelude);
}

-- where headers or the prelude have a fault, nothing is known
abbrev pub said_unless : List Fault → List Line → Said
said_unless [] prelude = said_in prelude
said_unless (fault ∷ faults) prelude = nothing_said

-- what lines say
abbrev pub said_by_lines : List Line → Said
said_by_lines lines = said_unless (heading_faults lines) (section_lines lines Prelude)

-- what a text says; bytes that are no text say nothing
abbrev pub said_by : List ℕ → Said
said_by text = elim (text_fault text) [ Some fault ↦ nothing_said | None ↦ said_by_lines (lines_of text) ]
