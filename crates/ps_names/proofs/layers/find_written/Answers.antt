use Rattle.std.proofs.Common.{◌≡◌, ◌∙◌, ap, rules, List, ℕ}
use Rattle.std.specs.Str.{bytes_eq}
use Rattle.std.specs.Map.{lookup}
use Rattle.ps_model.specs.text.Lines.{folded}
use Rattle.ps_laws.proofs.common.Foldings.{folded_again}
use Rattle.ps_names.specs.Tables.{entries_with}
use Rattle.ps_names.proofs.layers.find_written.Goals as goal

pub returns : goal.returns
returns c =
    let low : c.as_str.result.now ≡ folded c.args.name.now = search rules in
    c.find.ensures ∙ ap (λ (name : List ℕ). lookup (bytes_eq name) (entries_with c.args.table.now)) (ap folded low
    ∙ folded_again c.args.name.now)
