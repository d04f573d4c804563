-- The key words of rules.
use Rattle.std.specs.Prelude.{ℕ, Bool, List, is_some}
use Rattle.std.specs.Map.{lookup}
use Rattle.std.specs.Str.{bytes_eq}
use Rattle.ps_model.specs.text.Lines.{folded}
use Rattle.ps_model.specs.rules.RuleSymbols.{key_words}

-- a key word of rules, as it stands
unfoldable pub is_plain_key_word : List ℕ → Bool
is_plain_key_word word = is_some (lookup (bytes_eq word) key_words)

-- a key word of rules, its letters in either case
unfoldable pub is_key_word : List ℕ → Bool
is_key_word word = is_some (lookup (bytes_eq (folded word)) key_words)
