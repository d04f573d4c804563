-- Rules with the same parts.
use Rattle.std.proofs.Common.{◌≡◌, ℕ, Bool, List, refl}
use Rattle.ps_model.specs.declared.pieces.Direction.{Direction}
use Rattle.ps_model.specs.rules.SourceRules.{CellPair, Commands, SourceRule}

abbrev pub rule_with : ℕ → Bool → Bool → List Direction → List (List (List CellPair)) → Bool → Commands → SourceRule
rule_with line late joined directions rows rewrites commands =
    record {
      line = line;
      late = late;
      joined = joined;
      directions = directions;
      rows = rows;
      rewrites =
          rewrites;
      commands = commands;
    }

pub same-rule : (line line' : ℕ) (late late' joined joined' : Bool) (directions directions' : List Direction)
    (rows rows' : List (List (List CellPair)))
    (rewrites rewrites' : Bool) (commands commands' : Commands) → line ≡ line' → late ≡ late' → joined ≡ joined' →
    directions ≡ directions' → rows ≡ rows'
    → rewrites ≡ rewrites' → commands ≡ commands' →
    rule_with line late joined directions rows rewrites commands ≡ rule_with line' late' joined' directions' rows'
    rewrites' commands'
same-rule line line' late late' joined joined' directions directions' rows rows' rewrites rewrites' commands commands'
    a b c d e f g = rw (a, b, c, d, e, f, g) refl
