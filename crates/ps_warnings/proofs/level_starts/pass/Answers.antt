use Rattle.std.proofs.Common.{rules, ◌≡◌, ◌∙◌, ◌&&◌, ◌||◌, Bool, true, ap₂}
use Rattle.std.specs.Prelude.{not}
use Rattle.ps_model.specs.text.LineNumbers.{line_at}
use Rattle.ps_warnings.proofs.EntriesBegun.{text_begins}
use Rattle.ps_warnings.proofs.level_starts.pass.Goals as goal

pub returns : goal.returns
returns c =
    let text = c.args.source.now in
    let there : (line_at text c.args.line).is_there ≡ true = search rules in
    text_begins text c.args.line c.args.is_below_row c.begins.result c.in_ok-kind.kind.is_row
    c.args.numbers.now.items c.push_if.new.numbers.items c.requires.0 c.requires.1 there
    (c.begins.ensures ∙ ap₂ (λ (message row : Bool). message || (row && not c.args.is_below_row))
    c.in_ok-kind.ensures.message c.in_ok-kind.ensures.row)
    c.in_ok-kind.ensures.row c.in_ok-push_if.ensures
