use Rattle.std.proofs.Common.{rules}
use Rattle.ps_causes.specs.Pairs.{IsPairIn}
use Rattle.ps_causes.proofs.FoundSlips.{told-pair}
use Rattle.ps_causes.proofs.pairs.pair_cause.Goals as goal

pub returns : goal.returns
returns c =
    let found : IsPairIn c.args.source.now c.in_ok-words.words.items c.in-Some-2.pair.other c.in-Some-2.pair.word
    c.in-Some-2.pair.shared = search rules in
    told-pair c.args.source.now c.args.line c.in_ok-words.words.items c.in-Some-2.pair.other c.in-Some-2.pair.word
    c.in-Some-2.pair.shared c.in_ok-words.ensures.each c.in_ok-words.ensures.texts found
