use Rattle.std.proofs.Common.{rules, ◌≡◌, ◌∙◌, ◌++◌, ℕ, Bool, List, true, ap₂, sym, subst}
use Rattle.std.specs.Prelude.{OnOk, not}
use Rattle.ps_model.specs.text.LineNumbers.{line_at}
use Rattle.ps_laws.proofs.common.LinesInOrder.{line_at-number}
use Rattle.ps_warnings.specs.LayerWarnings.{layer_number}
use Rattle.ps_warnings.specs.Numbers.{number_if}
use Rattle.ps_warnings.proofs.LinesPassed.{made_here}
use Rattle.ps_warnings.proofs.layers.push_number.Goals as goal

pub returns : goal.returns
returns c =
    let text = c.args.source.now in
    let line = c.args.line in
    let there : (line_at text line).is_there ≡ true = search rules in
    let number : line ≡ (line_at text line).number = sym (line_at-number text line c.requires.0 c.requires.1) in
    let own : number_if (not c.is_blank_line.result) line ≡ _ =
    ap₂ (λ (blank : Bool). number_if (not blank)) c.is_blank_line.ensures number
    ∙ sym (made_here layer_number text line there) in
    subst (λ (more : List ℕ). OnOk c.push_if.result (c.push_if.new.numbers.items ≡ c.args.numbers.now.items ++ more))
    own c.push_if.ensures
