use Rattle.std.proofs.Common.{◌≡◌, rules, true}
use Rattle.ps_model.specs.text.LineNumbers.{line_at}
use Rattle.ps_facts.specs.NamesShown.{is_own}
use Rattle.ps_facts.specs.Slips.{section_of}
use Rattle.ps_causes.proofs.FoundSlips.{told-found}
use Rattle.ps_causes.proofs.slip_causes.slip_told.Goals as goal

pub returns : goal.returns
returns c =
    let own : is_own (section_of c.args.slip) (line_at c.args.source.now c.args.line) ≡ true = search rules in
    told-found c.args.source.now c.args.line c.args.words.now c.in-Some.word c.args.slip own c.requires.each
    c.requires.texts c.in-Some.ensures
