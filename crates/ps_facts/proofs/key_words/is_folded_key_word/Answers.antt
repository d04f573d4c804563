use Rattle.std.proofs.Common.{◌∙◌, sym}
use Rattle.std.specs.Str.{bytes_eq}
use Rattle.std.proofs.lemmas.Map.Made.{is_some-lookup}
use Rattle.ps_model.specs.rules.RuleSymbols.{key_words}
use Rattle.ps_facts.proofs.key_words.is_folded_key_word.Goals as goal

pub returns : goal.returns
returns c = c.is_one_of.ensures ∙ sym (is_some-lookup (bytes_eq c.args.word.now) key_words)
