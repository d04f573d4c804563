use Rattle.std.proofs.Common.{◌≡◌, map, drop}
use Rattle.std.specs.Str.{bytes_eq}
use Rattle.std.specs.Map.{lookup}
use Rattle.ps_rules.specs.SymbolsShown.{key_word_shown}
use Rattle.ps_rules.proofs.key_words.found_in.Given as goal

abbrev pub invariant-loop-known : goal.invariant-loop-known
invariant-loop-known l =
    lookup (bytes_eq l.word) (map (λ entry. (entry.0.now, key_word_shown entry.1)) (drop l.known-index l.table))
    ≡ lookup (bytes_eq l.word) (map (λ entry. (entry.0.now, key_word_shown entry.1)) l.table)
