-- A text says of itself what its prelude does, or nothing, where its headers or its prelude have a fault.
use Rattle.std.proofs.Common.{◌≡◌, ◌∙◌, ℕ, List, [], ◌∷◌, Option, Some, None, refl, sym, ap}
use Rattle.ps_model.specs.declared.texts.Section.TheVariants.{Prelude}
use Rattle.ps_model.specs.declared.faults.Fault.{Fault}
use Rattle.ps_model.specs.text.Faults.{first_fault}
use Rattle.ps_model.specs.text.TextFaults.{text_fault}
use Rattle.ps_model.specs.text.Lines.{Line, lines_of}
use Rattle.ps_model.specs.text.Sections.{section_lines, heading_faults}
use Rattle.ps_report.specs.Preludes.{Said, nothing_said, said_by, said_by_lines, said_in, said_unless}

pub lines_fine : (lines prelude : List Line) (said : Said) → heading_faults lines ≡ [] →
    section_lines lines Prelude ≡ prelude → said ≡ said_in prelude → said ≡ said_by_lines lines
lines_fine lines prelude said none same e =
    e ∙ ap said_in (sym same)
    ∙ sym (ap (λ (faults : List Fault). said_unless faults (section_lines lines Prelude)) none)

faulty : (faults : List Fault) (fault : Fault) (prelude : List Line) → first_fault faults ≡ Some fault →
    nothing_said ≡ said_unless faults prelude
faulty [] fault prelude first = absurd (let h = first in cc)
faulty (x ∷ faults) fault prelude first = refl

pub lines_faulty : (lines : List Line) (fault : Fault) (said : Said) →
    first_fault (heading_faults lines) ≡ Some fault → said ≡ nothing_said → said ≡ said_by_lines lines
lines_faulty lines fault said first e = e ∙ faulty (heading_faults lines) fault (section_lines lines Prelude) first

-- the same of a text by its fault as bytes, if it has one
abbrev pub said_if : List ℕ → Option Fault → Said
said_if text fault = elim fault [ Some only ↦ nothing_said | None ↦ said_by_lines (lines_of text) ]

pub text_fine : (text : List ℕ) (said : Said) → text_fault text ≡ None → said ≡ said_by_lines (lines_of text) →
    said ≡ said_by text
text_fine text said none e = e ∙ sym (ap (said_if text) none)

pub text_faulty : (text : List ℕ) (fault : Fault) (said : Said) → text_fault text ≡ Some fault → said ≡ nothing_said →
    said ≡ said_by text
text_faulty text fault said some e = e ∙ sym (ap (said_if text) some)
