-- Pieces of lines of the code as those of the definitions.
use Rattle.std.specs.Prelude.{List, map}
use Rattle.std.specs.Borrow.{Bor}
use Rattle.ps_model.specs.rules.SourceRules as model
use Rattle.ps_rules.specs.declared.tree.RuleLine.{RuleLine}
use Rattle.ps_rules.specs.RulesShown.{lines_shown}

abbrev pub pieces_shown : List (Bor (List RuleLine)) → List (List model.RuleLine)
pieces_shown pieces = map (λ piece. lines_shown piece.now) pieces
