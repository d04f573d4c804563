use Rattle.std.proofs.Common.{arith}
use Rattle.ps_warnings.proofs.RulesPassed.{other_counts}
use Rattle.ps_warnings.proofs.written_rules.same_words.Goals as goal

pub returns-then-words-others : goal.returns-then-words-others
returns-then-words-others c = other_counts c.args.words.now c.args.others.now (omega arith)
