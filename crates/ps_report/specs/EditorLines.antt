-- The lines on the faults of a text that editors read.
use Rattle.std.specs.Prelude.{◌≡◌, ℕ, nat_lt, ◌&&◌, if◌then◌else◌, List, [], ◌∷◌, ◌++◌, codes, length, take}
use Rattle.std.specs.Fmt.{decimal}
use Rattle.ps_model.specs.declared.faults.Fault.{Fault}
use Rattle.ps_report.specs.Codes.{code_of}
use Rattle.ps_report.specs.Details.{IsToldOn}
use Rattle.ps_report.specs.Pages.{StandFor, told_words}
use Rattle.ps_report.specs.declared.details.How.{How}

-- the line on a fault: file, line and column, a sentence, and the code
abbrev pub editor_line : List ℕ → Fault → ℕ → List ℕ → List ℕ
editor_line name fault column sentence =
    name ++ (codes ":" ++ (decimal fault.line ++ (codes ":" ++ (decimal column ++ (codes ": error: "
    ++ (sentence ++ (codes " [" ++ (code_of fault.kind ++ codes "]\n"))))))))

-- it tells what a check tells of the fault
pub record IsEditorLine (name text : List ℕ) (fault : Fault) (line : List ℕ) : Type 0 where
  pub column : ℕ
  pub shown : List ℕ
  pub sentence : List ℕ
  pub told : IsToldOn text fault column shown sentence
  pub is : line ≡ editor_line name fault column sentence

-- the line that says that there are more, if all were asked for
abbrev pub more_line : How → List ℕ → List Fault → List ℕ
more_line how name told =
    if how.counts && nat_lt how.most (length told) then name ++ (codes ": " ++ (told_words how.most told ++ 10 ∷ []))
    else []

-- the lines on faults of a text, on `how.most` at most, and whether there are more
pub record IsEditorPage (how : How) (name text : List ℕ) (told : List Fault) (page : List ℕ) : Type 0 where
  pub lines : List ℕ
  pub each : StandFor (IsEditorLine name text) (take how.most told) lines
  pub are : page ≡ lines ++ more_line how name told
