use Rattle.std.proofs.Common.{◌∙◌, ℕ, List, Bor}
use Rattle.ps_facts.proofs.KeyWordsSought.{sought}
use Rattle.ps_facts.proofs.key_words.is_one_of.Goals as goal

pub returns : goal.returns
returns c =
    c.contains.ensures.value ∙ sought (λ (one : Bor (List ℕ)). one.now) c.args.word.now c.args.words.now
