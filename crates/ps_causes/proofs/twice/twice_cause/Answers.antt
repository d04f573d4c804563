use Rattle.std.proofs.Common.{◌≡◌, ◌∙◌, ap, All}
use Rattle.ps_facts.specs.LineWords.{IsWordOf}
use Rattle.ps_facts.specs.Declarations.{declared}
use Rattle.ps_facts.specs.NamesShown.{names_shown}
use Rattle.ps_causes.proofs.twice.twice_cause.Goals as goal

pub returns : goal.returns
returns c =
    let names : names_shown c.deref.result.now ≡ declared c.args.source.now =
    ap (λ items. names_shown items) c.deref.ensures.value ∙ c.in_ok-names.ensures in
    let all : All (IsWordOf c.args.source.now c.args.line) c.deref-2.result.now =
    rw c.deref-2.ensures.value c.in_ok-words.ensures.each in
    c.first_twice.ensures c.args.source.now names all
