use Rattle.std.proofs.Common.{◌≡◌, ◌∙◌, ◌<◌, ◌+◌, ◌-◌, ℕ, suc, sym, ap, length, List, arith, rules}
use Rattle.ps_model.specs.names.Meanings.{LegendName, OfLine, meaning_behind}
use Rattle.ps_names.specs.Known.{mention_shown}
use Rattle.ps_names.specs.LegendNames.{legend_shown}
use Rattle.ps_names.specs.Ends.{EndsAt}
use Rattle.ps_names.proofs.meanings.meaning_by_end.Goals as goal

pub returns-in_ok-meaning-in-At-2 : goal.returns-in_ok-meaning-in-At-2
returns-in_ok-meaning-in-At-2 c =
    let legend : List LegendName = legend_shown c.args.legend.now in
    let last : EndsAt legend (OfLine c.args.place) c.in-At.passed (mention_shown c.in-At.mention) =
    (rw c.in-At.is at c.requires.end) in
    let within : c.in-At.passed < length c.args.legend.now = search rules in
    let rest : ℕ = length c.args.legend.now - (c.in-At.passed + 1) in
    let left : c.in-At.passed + suc rest ≡ length c.args.legend.now = omega arith in
    c.in_ok-meaning-in-At-2.ensures rest ∙ sym (last.stands (suc rest))
    ∙ ap (λ n. meaning_behind legend n (OfLine c.args.place)) left
