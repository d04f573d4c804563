use Rattle.std.proofs.Common.{◌≡◌, ◌++◌, map, drop}
use Rattle.ps_text.specs.WordViews.{text_of}
use Rattle.ps_facts.specs.Declarations.{declared_in}
use Rattle.ps_facts.specs.NamesShown.{names_shown}
use Rattle.ps_facts.proofs.names.push_names.Given as goal

-- the words passed by are put last, and the others lie ahead
abbrev pub invariant-loop-word : goal.invariant-loop-word
invariant-loop-word l = names_shown l.names.items ++ declared_in l.line (map text_of (drop l.word-index l.words)) ≡
    names_shown l.initial.names.items ++ declared_in l.line (map text_of l.words)
