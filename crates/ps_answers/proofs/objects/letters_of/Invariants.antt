use Rattle.std.proofs.Common.{◌≡◌, map, take}
use Rattle.std.specs.Prelude.{string_bytes}
use Rattle.ps_answers.specs.SolvedWords.{letter}
use Rattle.ps_answers.proofs.objects.letters_of.Given as goal

-- the keys of the inputs passed by are there
abbrev pub invariant-loop-input : goal.invariant-loop-input
invariant-loop-input l = string_bytes l.letters ≡ map letter (take l.input-index l.inputs)
