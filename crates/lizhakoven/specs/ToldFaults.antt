-- What C learns of a fault: its line, and its words in a field of fixed length.
use Rattle.std.specs.Prelude.{ℕ, ◌-◌, List, ◌++◌, length, replicate}
use Rattle.ps_model.specs.declared.faults.Fault.{Fault}
use Rattle.ps_model.specs.text.Refusals.{words_of}
use Rattle.lizhakoven.specs.declared.faults.TextFault.{TextFault}
use Rattle.lizhakoven.specs.declared.faults.TheConstants.{WORDS_ROOM}

-- a text, and zeros up to the end of its field
abbrev pub filled : List ℕ → List ℕ
filled text = text ++ replicate (WORDS_ROOM - length text) 0

-- a fault, told
abbrev pub told_fault : Fault → TextFault
told_fault fault = record { line = fault.line; words = filled (words_of fault.kind) }

-- no fault, told
abbrev pub no_fault : TextFault
no_fault = record { line = 0; words = replicate WORDS_ROOM 0 }
