use Rattle.std.proofs.Common.{◌≡◌, ◌++◌, map, take}
use Rattle.ps_answers.specs.SolvedWords.{letter}
use Rattle.ps_answers.proofs.lines.add_letters.Given as goal

-- the keys of the inputs passed by are there
abbrev pub invariant-loop-input : goal.invariant-loop-input
invariant-loop-input l = l.line.items ≡ l.initial.line.items ++ map letter (take l.input-index l.inputs)
