-- What is told on the screen by a check of texts, in the way that is asked for.
use Rattle.std.specs.Prelude.{◌≡◌, ◌⊎◌, ℕ, Bool, true, Option, List, [], codes}
use Rattle.ps_devices.specs.Devices.{Grows, Loses}
use Rattle.ps_report.specs.Reports.{IsReport, is_well}
use Rattle.ps_report.specs.declared.details.How.{How}

-- of this text its report is told, by that name
pub record TellsReportOn (how : How) (name text : List ℕ) (before after : Option (List ℕ)) : Type 0 where
  pub lines : List ℕ
  pub are : IsReport how name text lines
  pub wrote : Grows before after lines

-- the report of some text, which is well or isn't, as is answered
pub record IsReportAs (how : How) (name : List ℕ) (well : Bool) (lines : List ℕ) : Type 0 where
  pub text : List ℕ
  pub is : well ≡ is_well how text
  pub are : IsReport how name text lines

-- that report is told
pub record TellsReport (how : How) (name : List ℕ) (well : Bool) (before after : Option (List ℕ)) : Type 0 where
  pub lines : List ℕ
  pub are : IsReportAs how name well lines
  pub wrote : Grows before after lines

-- of some text that is well or isn't, as is answered, its report is told. If the name of its file is that of standard
-- input, it is what that gave
pub record TellsReportRead (how : How) (name : List ℕ) (well : Bool) (had left before after : Option (List ℕ)) : Type 0
  where
    pub text : List ℕ
    pub given : name ≡ codes "-" → Loses had left text
    pub is : well ≡ is_well how text
    pub told : TellsReportOn how name text before after

-- the report of some text that is well
abbrev pub IsReportOfGame : How → List ℕ → List ℕ → Type 0
IsReportOfGame how name lines = IsReportAs how name true lines

-- that of some text
pub record IsReportOfText (how : How) (name lines : List ℕ) : Type 0 where
  pub well : Bool
  pub are : IsReportAs how name well lines

-- the same, or nothing, for a file that can't be read
abbrev pub IsReportOfFile : How → List ℕ → List ℕ → Type 0
IsReportOfFile how name lines = (lines ≡ []) ⊎ IsReportOfText how name lines
