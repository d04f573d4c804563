-- The code and the name of a fault's kind.
use Rattle.std.specs.Prelude.{ℕ, ◌==◌, List}
use Rattle.std.specs.List.{after_first, before_first}
use Rattle.ps_model.specs.declared.faults.FaultKind.{FaultKind}
use Rattle.ps_model.specs.text.Refusals.{words_of}

-- what stands before the blank of its words, as `NA4`
abbrev pub code_of : FaultKind → List ℕ
code_of kind = before_first (λ byte. byte == 32) (words_of kind)

-- what stands after it, as `UnknownName`
abbrev pub name_of : FaultKind → List ℕ
name_of kind = after_first (λ byte. byte == 32) (words_of kind)
