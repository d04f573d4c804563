-- What a name stands for, it stands for with its letters folded.
use Rattle.std.proofs.Common.{◌≡◌, ℕ, List, ap}
use Rattle.std.specs.Str.{bytes_eq}
use Rattle.std.specs.Map.{lookup}
use Rattle.ps_model.specs.text.Lines.{folded}
use Rattle.ps_model.specs.names.Names.{Names}
use Rattle.ps_laws.proofs.common.Foldings.{folded_again}
use Rattle.ps_warnings.specs.NameWarnings.{line_if, line_named}

pub line_named_folded : (names : Names) (word : List ℕ) → line_named names (folded word) ≡ line_named names word
line_named_folded names word =
    ap (λ (name : List ℕ). line_if (lookup (bytes_eq name) names.entries)) (folded_again word)
