-- What is wrong with the headers and the prelude of a text, told in one pass over its lines.
use Rattle.std.specs.Prelude.{ℕ, nat_le, Bool, true, false, ◌&&◌, Option, None, Some, List, [], ◌∷◌, if◌then◌else◌}
use Rattle.std.specs.Option.{option_or}
use Rattle.ps_model.specs.declared.faults.Fault.{Fault}
use Rattle.ps_model.specs.declared.faults.FaultKind.TheVariants.{SectionOrder, Realtime, BadFlickscreen}
use Rattle.ps_model.specs.text.Lines.{Line}
use Rattle.ps_model.specs.text.Sections.{rank, is_real_time, is_without_size}

-- a header is out of order where its section has no later place than the last one above
abbrev pub is_late_header : ℕ → Line → Bool
is_late_header above line = line.is_header && nat_le (rank line.section) above

-- the fault of the line of a number: a late header, or a line that asks for real time, or for rooms without a size; or
-- none
abbrev pub fault_by : Bool → Bool → Bool → ℕ → Option Fault
fault_by true real sizeless number = Some (record { kind = SectionOrder; line = number })
fault_by false true sizeless number = Some (record { kind = Realtime; line = number })
fault_by false false true number = Some (record { kind = BadFlickscreen; line = number })
fault_by false false false number = None

-- the first fault of a line, below headers of which the last one's section has that place
abbrev pub heading_fault : ℕ → Line → Option Fault
heading_fault above line = fault_by (is_late_header above line) (is_real_time line) (is_without_size line) line.number

-- the place of the last section above the next line
abbrev pub place_below : ℕ → Line → ℕ
place_below above line = if line.is_header then rank line.section else above

-- the first fault of lines
abbrev pub headings_told : ℕ → List Line → Option Fault
headings_told above [] = None
headings_told above (line ∷ lines) = option_or (heading_fault above line) (headings_told (place_below above line) lines)
