-- Why bytes are refused as a text: there are too many of them, or they aren't UTF-8. The first cause in this order is
-- told, with the line that has it: of a text that is too long its first, else the line of the first wrong byte.
use Rattle.std.specs.Prelude.{ℕ, suc, nat_lt, true, false, Option, Some, None, List, length, take}
use Rattle.std.specs.List.{count_by}
use Rattle.std.specs.Str.Lossy.{utf8_valid_len}
use Rattle.ps_model.specs.declared.faults.Fault.{Fault}
use Rattle.ps_model.specs.declared.faults.FaultKind.TheVariants.{NotUtf8, TooLong}
use Rattle.ps_model.specs.declared.limits.TheConstants.{TEXT_LIMIT}
use Rattle.ps_model.specs.text.Lines.{is_line_feed}

-- the number of the line that a place stands in: one more than the line feeds before it
abbrev pub line_of_place : List ℕ → ℕ → ℕ
line_of_place bytes place = suc (count_by is_line_feed (take place bytes))

-- bytes that aren't UTF-8, at the first byte that belongs to no whole character
abbrev pub utf8_fault : List ℕ → Option Fault
utf8_fault bytes = elim (nat_lt (utf8_valid_len bytes) (length bytes)) [
  | true ↦ Some (record { kind = NotUtf8; line = line_of_place bytes (utf8_valid_len bytes) })
  | false ↦ None
]

-- why the bytes are refused as a text, if they are
abbrev pub text_fault : List ℕ → Option Fault
text_fault bytes = elim (nat_lt TEXT_LIMIT (length bytes))
    [ true ↦ Some (record { kind = TooLong; line = 1 }) | false ↦ utf8_fault bytes ]
