-- Texts made from others by their lines, for worked rows.
use Rattle.std.proofs.Common.{ℕ, List, [], ◌∷◌, ◌++◌}
use Rattle.std.specs.Prelude.{◌+◌, ◌-◌, codes, drop, take, replicate}
use Rattle.std.specs.List.{flat_map, range_with_len}
use Rattle.std.specs.Fmt.{decimal}
use Rattle.ps_model.specs.text.Lines.{raw_lines}

-- the bytes of lines
abbrev pub bytes_of : List (List ℕ) → List ℕ
bytes_of lines = flat_map (λ line. line ++ 10 ∷ []) lines

-- a text with other lines in place of `count` lines from a number on
abbrev pub changed : ℕ → ℕ → List ℕ → List ℕ → List ℕ
changed number count lines text = bytes_of (take (number - 1) (raw_lines text)) ++ (lines ++ bytes_of (drop (number - 1 + count) (raw_lines text)))

-- the same bytes, `count` times
abbrev pub many : ℕ → List ℕ → List ℕ
many count bytes = flat_map (λ each. each) (replicate count bytes)

-- the lines of `count` objects `E1`, `E2` and so on
abbrev pub objects : ℕ → List ℕ
objects count = flat_map (λ number. codes "E" ++ (decimal number ++ codes "\nred\n")) (range_with_len 1 count)

-- their names, each after a blank
abbrev pub names_of_objects : ℕ → List ℕ
names_of_objects count = flat_map (λ number. codes " E" ++ decimal number) (range_with_len 1 count)
